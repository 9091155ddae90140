use Rattle.std.proofs.Common.{All, ap, refl, subst, ◌∙◌}
use Rattle.vsi_image.specs.declared.instr.Image.{Image}
use Rattle.vsi_image.specs.Fields.{HasOpcode}
use Rattle.vsi_lattice.specs.LatticeView.{class_named, order}
use Rattle.vsi_types.specs.declared.rules.Profile.TheVariants.{Strict}
use Rattle.vsi_code.specs.Names.{all_named}
use Rattle.vsi_compiler.specs.SourceView.{source_of}
use Rattle.vsi_compiler.proofs.Compiled.{lawful, globals_kept, meaning_kept, image_kept, size_kept}
use Rattle.vsi_compiler.proofs.Coded.{coded}
use Rattle.vsi_compiler.proofs.Held.{of_parts, ready}
use Rattle.vsi_compiler.proofs.Programs.{have_classes}
use Rattle.vsi_compiler.proofs.Security.{behaves_source, noninterfering, ends_alike}
use Rattle.vsi_compiler.proofs.Typed.{typed_resolved}
use Rattle.vsi_compiler.proofs.compiler.image_of.Goals as goal

pub returns-clause-globals : goal.returns-clause-globals
returns-clause-globals c =
    let s = c.args.source.now in
    let r = c.resolved-resolved.result.now in
    let is = of_parts s c.resolved-resolved.ensures.kept s.lattice s.text r refl refl
    c.resolved-resolved.ensures.value in
    globals_kept (class_named s.lattice) s.text r is.stands c.in_ok-verified.verified
    (c.in_ok-verified.ensures.globals ∙ ap all_named c.in_ok-optimised.ensures.globals)

pub returns-clause-meaning : goal.returns-clause-meaning
returns-clause-meaning c =
    let s = c.args.source.now in
    let r = c.resolved-resolved.result.now in
    let is = of_parts s c.resolved-resolved.ensures.kept s.lattice s.text r refl refl
    c.resolved-resolved.ensures.value in
    meaning_kept (class_named s.lattice) s.text r is.stands c.in_ok-verified.verified
    (behaves_source c.in_ok-optimised.optimised r c.in_ok-verified.verified
    c.in_ok-optimised.ensures.globals c.in_ok-optimised.ensures.same c.in_ok-verified.ensures.behaves)

pub returns-clause-noninterference : goal.returns-clause-noninterference
returns-clause-noninterference c = λ P a.
    let s = c.args.source.now in
    let r = c.resolved-resolved.result.now in
    let is = of_parts s c.resolved-resolved.ensures.kept s.lattice s.text r refl refl
    c.resolved-resolved.ensures.value in
    let known = class_named s.lattice in
    let L = order s.lattice in
    noninterfering known L (lawful s.lattice) P r a.choice c.in_ok-verified.verified
    (ready (source_of s.lattice s.text r) is) (typed_resolved known s.text r is.stands L P a)
    (have_classes known is.stands.tree r is.stands.resolves)
    (c.in_ok-verified.ensures.globals ∙ ap all_named c.in_ok-optimised.ensures.globals)
    (behaves_source c.in_ok-optimised.optimised r c.in_ok-verified.verified
    c.in_ok-optimised.ensures.globals c.in_ok-optimised.ensures.same c.in_ok-verified.ensures.behaves)

pub returns-clause-endings : goal.returns-clause-endings
returns-clause-endings c = λ a.
    let s = c.args.source.now in
    let r = c.resolved-resolved.result.now in
    let is = of_parts s c.resolved-resolved.ensures.kept s.lattice s.text r refl refl
    c.resolved-resolved.ensures.value in
    let known = class_named s.lattice in
    let L = order s.lattice in
    ends_alike known L (lawful s.lattice) r a.choice c.in_ok-verified.verified
    (ready (source_of s.lattice s.text r) is) (typed_resolved known s.text r is.stands L Strict a)
    (have_classes known is.stands.tree r is.stands.resolves)
    (c.in_ok-verified.ensures.globals ∙ ap all_named c.in_ok-optimised.ensures.globals)
    (behaves_source c.in_ok-optimised.optimised r c.in_ok-verified.verified
    c.in_ok-optimised.ensures.globals c.in_ok-optimised.ensures.same c.in_ok-verified.ensures.behaves)

pub returns-clause-coded : goal.returns-clause-coded
returns-clause-coded c =
    coded c.in_ok-verified.verified c.image.ensures.valid
    (subst (λ (im : Image). All (HasOpcode 2) im.code.items) c.image.ensures.same
    (subst (All (HasOpcode 2)) c.deref.ensures.value c.have_opcodes.ensures))

pub returns-clause-image : goal.returns-clause-image
returns-clause-image c =
    let s = c.args.source.now in
    let r = c.resolved-resolved.result.now in
    let is = of_parts s c.resolved-resolved.ensures.kept s.lattice s.text r refl refl
    c.resolved-resolved.ensures.value in
    let o = c.in_ok-optimised.ensures in
    let v = c.in_ok-verified.ensures in
    image_kept (class_named s.lattice) s.text r is.stands c.in_ok-optimised.optimised c.in_ok-verified.verified
    (record { globals = v.globals; code = v.code; slots = v.slots; stack = v.stack }) o.globals o.live

pub returns-clause-size : goal.returns-clause-size
returns-clause-size c =
    let s = c.args.source.now in
    let r = c.resolved-resolved.result.now in
    let is = of_parts s c.resolved-resolved.ensures.kept s.lattice s.text r refl refl
    c.resolved-resolved.ensures.value in
    size_kept (class_named s.lattice) s.text r is.stands c.in_ok-optimised.optimised c.in_ok-verified.verified
    c.in_ok-verified.ensures.count c.in_ok-optimised.ensures.not_larger
