-- The state of a walk through commands and a tree, used only in proofs.
use Rattle.std.specs.Prelude.{map}
use Rattle.vsi_scope.specs.Scopes.{Scope}
use Rattle.vsi_audit.specs.declared.writing.InScope.{InScope}

-- The names in scope, as a value of these definitions.
abbrev pub names_of : InScope → Scope
names_of s = map (λ x. x.now) s.names.items
