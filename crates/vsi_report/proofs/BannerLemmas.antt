-- The beginning of a page.
use Rattle.std.proofs.Common.{◌≡◌, ◌≢◌, refl, ℕ, List, [], ◌++◌, ap, sym, subst, length, ◌∙◌, append_assoc, Result}
use Rattle.std.specs.Prelude.{IfOk, codes}
use Rattle.std.specs.Global.{Vec}
use Rattle.std.proofs.lemmas.Result.{IfOk-weaker}
use Rattle.vsi_lattice.specs.declared.lattice.Lattice.{Lattice}
use Rattle.vsi_types.specs.declared.rules.Profile.{Profile}
use Rattle.vsi_lattice.specs.LatticeView.{class_named, order}
use Rattle.vsi_scope.specs.Program.{Resolved}
use Rattle.vsi_types.specs.declared.rules.Step.{Step}
use Rattle.vsi_types.specs.Security.{program}
use Rattle.vsi_compiler.specs.Refusal.{HasShortestBadWalk, RefusesProgram}
use Rattle.vsi_compiler.specs.declared.source.CompileError.{CompileError}
use Rattle.vsi_compiler.specs.declared.source.CompileError.TheVariants.{Memory, Lex, Parse, Scope, Flow}
use Rattle.vsi_compiler.specs.Stands.{Stands}
use Rattle.vsi_flows.specs.declared.table.Pair.{Pair}
use Rattle.vsi_flows.specs.Table.{IsTable}
use Rattle.vsi_report.specs.Banner.{HasBanner, HasLead, banner, beginning, first_lines, title, untagged}
use Rattle.vsi_report.specs.Escape.{escaped}
use Rattle.vsi_report.specs.Page.{HasPanel, panel_begin, panel_end}
use Rattle.vsi_report.specs.Reading.{Shows}
use Rattle.vsi_report.specs.Lead.{HasTrueLead, IsLead, allowed_words, lead_words}
use Rattle.vsi_report.specs.Verdict.{HasVerdict, IsVerdict, Tells, verdict_of}
use Rattle.vsi_report.specs.declared.banner.Lead.{Lead}
use Rattle.vsi_report.specs.declared.page.Verdict.{Verdict}
use Rattle.vsi_report.specs.declared.page.Verdict.TheVariants.{Accepted, Refused}

-- The pairs are the table of flows of the text's program.
pub record AreFlows (l : Lattice) (P : Profile) (text : List ℕ) (pairs : List Pair) : Type 0 where
  pub resolved : Resolved
  pub stands : Stands (class_named l) text resolved
  pub table : IsTable (order l) P (program resolved) pairs

-- The tags before the panel of a source that aren't part of it.
abbrev pub source_begin : List ℕ
source_begin =
    codes "<div class=\"beside\">\n<section aria-labelledby=\"source\"><h2 id=\"source\">Source</h2>\n"

-- The end of a page.
abbrev pub page_end : List ℕ
page_end = codes "</div>\n</main>\n</body>\n</html>\n"

-- The text after the first sentences of a page.
abbrev pub after_lead : List ℕ → List ℕ → List ℕ → List ℕ
after_lead before panel after =
    before ++ (source_begin ++ (panel_begin ++ (panel ++ (panel_end ++ (after ++ page_end)))))

-- A page with this title, name, style, heading and rest, part after part.
abbrev pub page_of : List ℕ → List ℕ → List ℕ → List ℕ → List ℕ → List ℕ → List ℕ → List ℕ → List ℕ
page_of title name style heading lead before panel after =
    first_lines ++ (title ++ (name ++ (codes "</title>\n<style>\n" ++ (style
    ++ (codes "</style>\n</head>\n<body>\n<main>\n" ++ (heading ++ (lead ++ after_lead before panel after)))))))

-- Seven parts before a rest, grouped from the left as the beginning of a page is.
begun_so : (a b c d e f g x : List ℕ) →
    a ++ (b ++ (c ++ (d ++ (e ++ (f ++ (g ++ x)))))) ≡ (a ++ b ++ c ++ d ++ e ++ f ++ g) ++ x
begun_so a b c d e f g x =
    sym (append_assoc (a ++ b ++ c ++ d ++ e ++ f) g x ∙ append_assoc (a ++ b ++ c ++ d ++ e) f (g ++ x)
    ∙ append_assoc (a ++ b ++ c ++ d) e (f ++ (g ++ x)) ∙ append_assoc (a ++ b ++ c) d (e ++ (f ++ (g ++ x)))
    ∙ append_assoc (a ++ b) c (d ++ (e ++ (f ++ (g ++ x)))) ∙ append_assoc a b (c ++ (d ++ (e ++ (f ++ (g ++ x))))))

-- Four parts before a rest, as one part.
before_so : (a b c d x : List ℕ) → a ++ (b ++ (c ++ (d ++ x))) ≡ (a ++ (b ++ (c ++ d))) ++ x
before_so a b c d x =
    sym (append_assoc a (b ++ (c ++ d)) x ∙ ap (λ y. a ++ y) (append_assoc b (c ++ d) x
    ∙ ap (λ y. b ++ y) (append_assoc c d x)))

-- A page that is made part after part begins with the beginning of a page.
page_so : (v : Verdict) (page made top name style heading lead before panel after : List ℕ) →
    page ≡ made ++ page_of top (escaped name) (untagged style) heading lead before panel after → made ≡ [] →
    top ≡ title v → heading ≡ banner v →
    page ≡ beginning v name style ++ (lead ++ after_lead before panel after)
page_so v page made top name style heading lead before panel after h e t b =
    h ∙ ap (λ x. x ++ page_of top (escaped name) (untagged style) heading lead before panel after) e
    ∙ ap (λ x. page_of x (escaped name) (untagged style) heading lead before panel after) t
    ∙ ap (λ x. page_of (title v) (escaped name) (untagged style) x lead before panel after) b
    ∙ begun_so first_lines (title v) (escaped name) (codes "</title>\n<style>\n") (untagged style)
    (codes "</style>\n</head>\n<body>\n<main>\n") (banner v) (lead ++ after_lead before panel after)

-- Such a page has its first sentences.
pub page_led : (v : Verdict) (page made top name style heading lead before panel after : List ℕ) →
    page ≡ made ++ page_of top (escaped name) (untagged style) heading lead before panel after → made ≡ [] →
    top ≡ title v → heading ≡ banner v → HasLead v lead page
page_led v page made top name style heading lead before panel after h e t b =
    record {
      name = name;
      style = style;
      rest = after_lead before panel after;
      parts = page_so v page made top name style heading lead before panel after h e t b;
    }

-- Such a page has its panel.
pub page_shows : (v : Verdict) (page made top name style heading lead before panel after source : List ℕ) →
    page ≡ made ++ page_of top (escaped name) (untagged style) heading lead before panel after → made ≡ [] →
    top ≡ title v → heading ≡ banner v → Shows panel source → HasPanel page source
page_shows v page made top name style heading lead before panel after source h e t b shows =
    let start = beginning v name style in
    record {
      before = start ++ (lead ++ (before ++ source_begin));
      panel = panel;
      after = after ++ page_end;
      parts =
          page_so v page made top name style heading lead before panel after h e t b
          ∙ before_so start lead before source_begin (panel_begin ++ (panel ++ (panel_end ++ (after ++ page_end))));
      shows = shows;
    }

-- A page with first sentences has the banner before them.
pub lead_banner : (v : Verdict) (lead page : List ℕ) → HasLead v lead page → HasBanner v page
lead_banner v lead page h = record { name = h.name; style = h.style; rest = lead ++ h.rest; parts = h.parts }

-- A page with the banner of the compiler's verdict and first sentences that are true shows the verdict.
pub verdict_shown : {E : Type 0} (l : Lattice) (P : Profile) (text : List ℕ) (v : Verdict) (r : Result (Vec ℕ) E)
    (T : List ℕ → Type 0) → IsVerdict l P text v → ((page : List ℕ) → T page → HasBanner v page) →
    ((page : List ℕ) → T page → Tells l P text page v) → IfOk r (λ page. T page.items) →
    IfOk r (λ page. HasVerdict l P text page.items)
verdict_shown l P text v r T is banner told h =
    IfOk-weaker r (λ page. T page.items) (λ page. HasVerdict l P text page.items)
    (λ page t. record { verdict = v; is = is; banner = banner page.items t; told = told page.items t })
    h

-- The page of an accepted text with the count of its pairs shows the verdict.
pub accepted_shown : {E : Type 0} (l : Lattice) (P : Profile) (text : List ℕ) (pairs : List Pair)
    (r : Result (Vec ℕ) E) → IsVerdict l P text Accepted → AreFlows l P text pairs →
    IfOk r (λ page. HasLead Accepted (allowed_words (length pairs)) page.items) →
    IfOk r (λ page. HasVerdict l P text page.items)
accepted_shown l P text pairs r is flows h =
    verdict_shown l P text Accepted r (HasLead Accepted (allowed_words (length pairs))) is
    (lead_banner Accepted (allowed_words (length pairs)))
    (λ page t. record {
      resolved = flows.resolved;
      stands = flows.stands;
      pairs = pairs;
      table = flows.table;
      shown = t;
    })
    h

-- The page of a refused text with the facts of its walk and its pairs shows the verdict.
pub refused_shown : {E : Type 0} (l : Lattice) (P : Profile) (text : List ℕ) (resolved : Resolved)
    (steps : List Step) (pairs : List Pair) (r : Result (Vec ℕ) E) → Stands (class_named l) text resolved →
    IsTable (order l) P (program resolved) pairs →
    HasShortestBadWalk (class_named l) (order l) P text steps →
    IfOk r (λ page. HasTrueLead l resolved steps pairs page.items) →
    IfOk r (λ page. HasVerdict l P text page.items)
refused_shown l P text resolved steps pairs r stands table walk h =
    verdict_shown l P text Refused r (HasTrueLead l resolved steps pairs) (record { steps = steps; walk = walk })
    (λ page t. lead_banner Refused (lead_words t.lead) page t.shown)
    (λ page t. record {
      steps = steps;
      walk = walk;
      resolved = resolved;
      stands = stands;
      pairs = pairs;
      table = table;
      lead = t;
    })
    h

-- The verdict about a text with a fault is the one for its refusal, and has no first sentences.
pub fault_is : (l : Lattice) (P : Profile) (text : List ℕ) (e : CompileError) → e ≢ Memory →
    RefusesProgram (class_named l) text e →
    IsVerdict l P text (verdict_of e) × ((page : List ℕ) → Tells l P text page (verdict_of e))
fault_is l P text (Lex e) other reason =
    (record { error = Lex e; other = other; reason = reason; shown = refl }, λ page. tt)
fault_is l P text (Parse e) other reason =
    (record { error = Parse e; other = other; reason = reason; shown = refl }, λ page. tt)
fault_is l P text (Scope e) other reason =
    (record { error = Scope e; other = other; reason = reason; shown = refl }, λ page. tt)
fault_is l P text (Flow walk) other reason = absurd reason
fault_is l P text Memory other reason = absurd (other refl)

-- The page of a text whose flows aren't judged shows the verdict.
pub fault_shown : {E : Type 0} (l : Lattice) (P : Profile) (text : List ℕ) (e : CompileError) (r : Result (Vec ℕ) E) →
    e ≢ Memory → RefusesProgram (class_named l) text e →
    IfOk r (λ page. HasLead (verdict_of e) [] page.items) → IfOk r (λ page. HasVerdict l P text page.items)
fault_shown l P text e r other reason h =
    let both = fault_is l P text e other reason in
    verdict_shown l P text (verdict_of e) r (HasLead (verdict_of e) []) both.0 (lead_banner (verdict_of e) [])
    (λ page t. both.1 page) h

-- A page with the sentences of true facts has a true lead.
pub true_lead : {E : Type 0} (l : Lattice) (resolved : Resolved) (steps : List Step) (pairs : List Pair) (lead : Lead)
    (words : List ℕ) (r : Result (Vec ℕ) E) → IsLead l resolved steps pairs lead → words ≡ lead_words lead →
    IfOk r (λ page. HasLead Refused words page.items) →
    IfOk r (λ page. HasTrueLead l resolved steps pairs page.items)
true_lead l resolved steps pairs lead words r is e h =
    IfOk-weaker r (λ page. HasLead Refused words page.items)
    (λ page. HasTrueLead l resolved steps pairs page.items)
    (λ page t. record { lead = lead; is = is; shown = subst (λ x. HasLead Refused x page.items) e t })
    h
