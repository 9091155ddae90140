-- The beginning of a page, with the banner of its verdict.
use Rattle.std.specs.Prelude.{◌≡◌, ℕ, ◌==◌, if◌then◌else◌, List, [], ◌∷◌, ◌++◌, codes}
use Rattle.std.specs.List.{flat_map}
use Rattle.vsi_report.specs.Escape.{escaped}
use Rattle.vsi_report.specs.declared.page.Verdict.{Verdict}
use Rattle.vsi_report.specs.declared.page.Verdict.TheVariants.{Accepted, Refused, NoProgram, Unjudged}

-- The first lines of a page.
abbrev pub first_lines : List ℕ
first_lines =
    codes "<!DOCTYPE html>\n<html lang=\"en\">\n<head>\n<meta charset=\"utf-8\">\n"
    ++ codes "<meta name=\"viewport\" content=\"width=device-width, initial-scale=1\">\n"
    ++ codes "<meta http-equiv=\"Content-Security-Policy\" "
    ++ codes "content=\"default-src 'none'; style-src 'unsafe-inline'\">\n"
    ++ codes "<meta name=\"color-scheme\" content=\"light dark\">\n"

-- The beginning of the title for a verdict.
abbrev pub title : Verdict → List ℕ
title Accepted = codes "<title>Accepted: a report of its flows, "
title Refused = codes "<title>Refused: a report of its flows, "
title NoProgram = codes "<title>Not a program, "
title Unjudged = codes "<title>Not judged, "

-- The beginning of the banner for a verdict, with its colour and its heading.
abbrev pub banner : Verdict → List ℕ
banner Accepted = codes "<header class=\"good\"><h1>&#10003; Accepted</h1>\n"
banner Refused = codes "<header class=\"bad\"><h1>&#10007; Refused</h1>\n"
banner NoProgram = codes "<header class=\"bad\"><h1>&#10007; Not a program</h1>\n"
banner Unjudged = codes "<header class=\"bad\"><h1>&#10007; Not judged</h1>\n"

-- A byte that could begin a tag is left out; any other byte is written as it is.
abbrev pub untagged_byte : ℕ → List ℕ
untagged_byte b = if b == 60 then [] else b ∷ []

-- A style sheet without the bytes that could begin a tag.
abbrev pub untagged : List ℕ → List ℕ
untagged style = flat_map untagged_byte style

-- The beginning of a page: its head, with the end of its title and its style sheet, in neither of which a tag can
-- begin, and the banner, which is the first thing of its body.
abbrev pub beginning : Verdict → List ℕ → List ℕ → List ℕ
beginning v name style =
    first_lines ++ title v ++ escaped name ++ codes "</title>\n<style>\n" ++ untagged style
    ++ codes "</style>\n</head>\n<body>\n<main>\n" ++ banner v

-- The page begins with the banner for the verdict, and after its heading has these sentences.
pub record HasLead (v : Verdict) (lead page : List ℕ) : Type 0 where
  pub name : List ℕ
  pub style : List ℕ
  pub rest : List ℕ
  pub parts : page ≡ beginning v name style ++ (lead ++ rest)

-- The page begins with the banner for the verdict.
pub record HasBanner (v : Verdict) (page : List ℕ) : Type 0 where
  pub name : List ℕ
  pub style : List ℕ
  pub rest : List ℕ
  pub parts : page ≡ beginning v name style ++ rest
