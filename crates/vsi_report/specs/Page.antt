-- The place of the source text in a page.
use Rattle.std.specs.Prelude.{◌≡◌, ℕ, List, ◌++◌, codes}
use Rattle.vsi_report.specs.Reading.{Shows}

-- The tags before the panel of a source text.
abbrev pub panel_begin : List ℕ
panel_begin = codes "<pre class=\"source\"><code>"

-- The tags after the panel.
abbrev pub panel_end : List ℕ
panel_end = codes "</code></pre>"

-- The page has a panel between its tags, and the panel shows the source text.
pub record HasPanel (page source : List ℕ) : Type 0 where
  pub before : List ℕ
  pub panel : List ℕ
  pub after : List ℕ
  pub parts : page ≡ before ++ (panel_begin ++ (panel ++ (panel_end ++ after)))
  pub shows : Shows panel source
