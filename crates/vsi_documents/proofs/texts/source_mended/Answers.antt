use Rattle.std.proofs.Common.{map, rules, sym, subst}
use Rattle.serde_json.specs.View.{view}
use Rattle.vsi_lattice.specs.LatticeView.{order}
use Rattle.vsi_types.specs.Security.{program}
use Rattle.vsi_compiler.specs.declared.source.CompileError.TheVariants.{Flow}
use Rattle.vsi_flows.specs.Raising.{Answers}
use Rattle.vsi_flows.specs.Answers.{HasClassesIn}
use Rattle.vsi_flows.proofs.AnswerLemmas.{final_walk}
use Rattle.vsi_flows.proofs.RaiseLemmas.{classes_in}
use Rattle.vsi_conform.specs.Checking.{TellsAnswer}
use Rattle.vsi_documents.specs.Answers.{HasNoRaises}
use Rattle.vsi_documents.proofs.Lines.{walk_apart}
use Rattle.vsi_documents.proofs.texts.source_mended.Goals as goal

pub raise_objects-requires : goal.raise_objects-requires
raise_objects-requires c =
    let s = c.args.source.now in
    subst (HasClassesIn (order s.lattice)) (sym c.deref.ensures.value)
    (classes_in (order s.lattice) c.args.profile (program s.resolved) c.in-Raised.raises.items
    (subst (Answers (order s.lattice) c.args.profile (program s.resolved)) c.in-Raised.is
    c.in_ok-raising.ensures.answer))

pub returns-in_ok-text-in-Raised : goal.returns-in_ok-text-in-Raised
returns-in_ok-text-in-Raised c =
    let s = c.args.source.now in
    record {
      accepted = c.in_ok-checked.checked.is_accepted;
      checked = c.in_ok-checked.checked.line.items;
      judged = subst
          (λ j. TellsAnswer s.lattice j s.text c.in_ok-checked.checked.is_accepted c.in_ok-checked.checked.line.items)
          c.judgement_by.ensures.judgement c.in_ok-checked.ensures.answer;
      raises = record {
        resolved = s.resolved;
        stands = c.resolved-program.ensures.kept.stands;
        raises = c.in-Raised.raises.items;
        least = subst (Answers (order s.lattice) c.args.profile (program s.resolved)) c.in-Raised.is
            c.in_ok-raising.ensures.answer;
        objects = map view c.in_ok-objects-in-Raised.objects;
        line = c.in_ok-text-in-Raised.ensures;
      };
    }

pub returns-in-Refused : goal.returns-in-Refused
returns-in-Refused c =
    let s = c.args.source.now in
    let none : HasNoRaises s.lattice c.args.profile s.text =
    record {
      error = Flow c.in-Refused._walk;
      other = walk_apart c.in-Refused._walk;
      refused = final_walk s c.resolved-program.ensures.kept c.args.profile c.in-Refused._walk.steps.items
          (subst (Answers (order s.lattice) c.args.profile (program s.resolved)) c.in-Refused.is
          c.in_ok-raising.ensures.answer);
    } in
    search (rules, none)
