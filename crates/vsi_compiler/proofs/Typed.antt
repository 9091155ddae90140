-- The promises about the image of an accepted text, even if its flows weren't judged.
use Rattle.std.proofs.Common.{ℕ, List, map, sym, subst, ◌∙◌}
use Rattle.vsi_syntax.specs.Tree.{Whole}
use Rattle.vsi_lattice.specs.Order.{Lattice}
use Rattle.vsi_lattice.specs.Known.{Known}
use Rattle.vsi_scope.specs.Program.{Resolved}
use Rattle.vsi_scope.specs.Resolving.{IsResolution}
use Rattle.vsi_scope.specs.View.{command}
use Rattle.vsi_scope.proofs.Complete.{does_all_one}
use Rattle.vsi_types.specs.declared.rules.Profile.{Profile}
use Rattle.vsi_types.specs.Security.{program, IsTypable}
use Rattle.vsi_compiler.specs.Stands.{Stands}
use Rattle.vsi_compiler.specs.Acceptance.{IsAccepted, program_of}
use Rattle.vsi_compiler.proofs.Programs.{program_is}

-- A choice that types an accepted text types its resolved program.
pub typed_resolved : (known : Known) (text : List ℕ) (r : Resolved) (stands : Stands known text r) (L : Lattice)
    (P : Profile) (a : IsAccepted known L P text) → IsTypable L P (program r) a.choice
typed_resolved known text r stands L P a =
    let same = stands.only a.tree a.reads in
    let here = subst (λ (t : Whole). IsResolution known t a.commands) (sym same) a.resolution in
    let commands = does_all_one _ _ a.commands here.body
    ∙ sym (does_all_one _ _ (map command r.body) stands.resolves.resolution.body) in
    let typed : IsTypable L P (program_of known stands.tree (map command r.body)) a.choice =
    subst (λ t. IsTypable L P (program_of known t (map command r.body)) a.choice) (sym same)
    (subst (λ cs. IsTypable L P (program_of known a.tree cs) a.choice) commands a.typable) in
    subst (λ p. IsTypable L P p a.choice) (sym (program_is known stands.tree r stands.resolves)) typed
