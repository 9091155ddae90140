use Rattle.std.proofs.Common.{◌≡◌, ◌∙◌, None, true, ◌&&◌, map, refl, sym, subst}
use Rattle.std.proofs.lemmas.Bool.{and_parts}
use Rattle.vsi_conform.specs.Reaching.{are_within, released}
use Rattle.vsi_conform.specs.Reading.{cycle}
use Rattle.vsi_conform.specs.Rows.{row}
use Rattle.vsi_conform.specs.ImageLines.{AreImageRows}
use Rattle.vsi_conform.specs.ImageReaching.{AreImageReleased}
use Rattle.vsi_requests.proofs.steering.know_image.Goals as goal

pub returns-then-conforms-clause-conforms : goal.returns-then-conforms-clause-conforms
returns-then-conforms-clause-conforms c =
    let within = are_within (map released c.in_ok-reaches.reaches.items) in
    let fits = c.conforms-fits.result in
    let all : ((fits && within) && true) ≡ true = sym c.conforms.ensures.verdict ∙ c.if-conforms.true in
    let both = and_parts fits within (and_parts (fits && within) true all).0 in
    c.in_ok-answer.ensures.conforms (sym c.conforms-fits.ensures ∙ both.0)

pub returns-then-conforms-clause-allows : goal.returns-then-conforms-clause-allows
returns-then-conforms-clause-allows c =
    let within = are_within (map released c.in_ok-reaches.reaches.items) in
    let fits = c.conforms-fits.result in
    let all : ((fits && within) && true) ≡ true = sym c.conforms.ensures.verdict ∙ c.if-conforms.true in
    let both = and_parts fits within (and_parts (fits && within) true all).0 in
    record {
      found = map released c.in_ok-reaches.reaches.items;
      released = subst
          (λ cs. AreImageReleased c.args.lattice.now c.args.asked.now.interface.judgement c.args.verified.now
          (map cycle cs) (map released c.in_ok-reaches.reaches.items)) c.deref.ensures.value
          c.in_ok-reaches.ensures.reaches;
      within = both.1;
    }

pub returns-clause-failed : goal.returns-clause-failed
returns-clause-failed c = record {
  said = record {
    fits = c.conforms-fits.result;
    rows = map row c.in_ok-rows.rows.items;
    found = map released c.in_ok-reaches.reaches.items;
    tried = None;
  };
  judges = record {
    answer = c.in_ok-answer.answer;
    tells = c.in_ok-answer.ensures.told;
    verdict = sym c.conforms-fits.ensures;
    is = λ is. c.in_ok-answer.ensures.conforms (sym c.conforms-fits.ensures ∙ is);
    are = subst (λ im. AreImageRows c.args.lattice.now im c.args.asked.now.interface
        c.in_ok-answer.answer (map row c.in_ok-rows.rows.items)) c.image.ensures.same c.in_ok-rows.ensures.rows;
  };
  released = subst
      (λ cs. AreImageReleased c.args.lattice.now c.args.asked.now.interface.judgement c.args.verified.now (map cycle cs)
      (map released c.in_ok-reaches.reaches.items)) c.deref.ensures.value c.in_ok-reaches.ensures.reaches;
  untried = refl;
  differs = sym c.conforms.ensures.verdict ∙ c.if-conforms.false;
  is = c.in_ok-lines.ensures.lines;
}
