-- Resolution: the form of a tree over locations, with certain names in scope.
use Rattle.std.specs.Prelude.{◌≡◌, ◌≢◌, ℕ, List, [], ◌∷◌, ◌++◌, length}
use Rattle.vsi_syntax.specs.Tree as tree
use Rattle.vsi_scope.specs.Language.{Expression, Number, Location, Operator, Command, Skip, Assign, Sequence, If, While, Letvar}

-- A name, given by its bytes.
abbrev pub Text : Type 0
Text = List ℕ

-- The names in scope, globals first.
abbrev pub Scope : Type 0
Scope = List Text

-- No name of the list is this one.
abbrev pub IsAbsent : Scope → Text → Type 0
IsAbsent [] x = Unit {0}
IsAbsent (y ∷ ys) x = (y ≢ x) × IsAbsent ys x

-- A name denotes its last position in the list.
pub record StandsFor (scope : Scope) (x : Text) (l : ℕ) : Type 0 where
  pub before : Scope
  pub after : Scope
  pub splits : scope ≡ before ++ x ∷ after
  pub place : length before ≡ l
  pub last : IsAbsent after x

-- An expression over locations is the form of this tree; brackets disappear.
abbrev pub Means : Scope → tree.Tree → Expression → Type 0
Means scope (tree.Number n) p = p ≡ Number n
Means scope (tree.Name x) p = (l : ℕ) × StandsFor scope x.text l × (p ≡ Location l x.span)
Means scope (tree.Bracket e) p = Means scope e p
Means scope (tree.Binary op a b) p =
    (q : Expression) × (r : Expression) × Means scope a q × Means scope b r × (p ≡ Operator op q r)

-- A list of commands is their sequence.
abbrev pub in_sequence : List Command → Command
in_sequence [] = Skip
in_sequence (c ∷ cs) = Sequence c (in_sequence cs)

abbrev mutual
  -- A list of commands over locations is the form of this command; a block becomes part of the sequence that holds it.
  pub Does : Scope → tree.Command → List Command → Type 0
  Does scope (tree.Assign x e) cs =
      (l : ℕ) × (p : Expression) × StandsFor scope x.text l × Means scope e p × (cs ≡ Assign l x.span p ∷ [])
  Does scope (tree.If e c d) cs =
      (p : Expression) × (yes : List Command) × (no : List Command) × Means scope e p × Does scope c yes
      × Does scope d no
      × (cs ≡ If p (in_sequence yes) (in_sequence no) ∷ [])
  Does scope (tree.While e c) cs =
      (p : Expression) × (body : List Command) × Means scope e p × Does scope c body
      × (cs ≡ While p (in_sequence body) ∷ [])
  Does scope (tree.Letvar x class e c) cs =
      (p : Expression) × (body : List Command) × Means scope e p × Does (scope ++ x.text ∷ []) c body
      × (cs ≡ Letvar p (in_sequence body) ∷ [])
  Does scope (tree.Block b) cs = DoesAll scope b cs

  -- A list of commands over locations is the form of this sequence: the lists of its commands, one after another.
  pub DoesAll : Scope → tree.Body → List Command → Type 0
  DoesAll scope tree.Done cs = cs ≡ []
  DoesAll scope (tree.Then c rest) cs =
      (first : List Command) × (others : List Command) × Does scope c first × DoesAll scope rest others
      × (cs ≡ first ++ others)

-- A tree has at most one resolution.
abbrev pub OneResolution : Type 0
OneResolution = (scope : Scope) (b : tree.Body) (cs ds : List Command) →
    DoesAll scope b cs → DoesAll scope b ds → cs ≡ ds
