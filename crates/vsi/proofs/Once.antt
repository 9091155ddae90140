-- Words that ask for `build` or `view` ask for one request alone, but for its numbers.
use Rattle.std.proofs.Common.{◌≡◌, ℕ, true, false, List, [], ◌∷◌, refl, ap, sym, subst, ◌∙◌}
use Rattle.std.specs.Prelude.{◌||◌, Option, Some, None, bytes_eq, codes, is_some, String}
use Rattle.std.specs.Borrow.{Bor}
use Rattle.std.specs.declared.alloc.Global.{Global}
use Rattle.vsi_arguments.specs.declared.request.Compilation.{Compilation}
use Rattle.vsi_arguments.specs.declared.request.DrivePolicy.{DrivePolicy}
use Rattle.vsi_arguments.specs.declared.request.DrivePolicy.TheVariants as policy
use Rattle.vsi_arguments.specs.declared.request.Execution.{Execution}
use Rattle.vsi_arguments.specs.declared.request.InitialStore.{InitialStore}
use Rattle.vsi_arguments.specs.declared.request.Request.{Request}
use Rattle.vsi_arguments.specs.declared.request.Viewing.{Viewing}
use Rattle.vsi_arguments.specs.declared.request.Document.{Document as Answered}
use Rattle.vsi_arguments.specs.declared.request.Document.TheVariants as document
use Rattle.vsi_arguments.specs.declared.request.Request.TheVariants.{Build, Document, View, ViewWithin}
use Rattle.vsi_arguments.specs.Asked.{AsksFor, Spells, given, interface_of, is_bounding, lists_of, name_of}
use Rattle.vsi_arguments.proofs.Plain.{is_named}
use Rattle.vsi_arguments.specs.Words.{has_flag, operands_in, shown, texts, values_in}

-- The arguments after the same first one are the same.
behind : (words : List (List ℕ)) (name : List ℕ) (xs ys : List (List ℕ)) → words ≡ name ∷ xs → words ≡ name ∷ ys →
    ys ≡ xs
behind words name xs ys first second = cc

-- The first word isn't two names.
other_name : (words : List (List ℕ)) (name other : List ℕ) (xs ys : List (List ℕ)) → words ≡ name ∷ xs →
    words ≡ other ∷ ys → bytes_eq name other ≡ false → bytes_eq name name ≡ true → ⊥
other_name words name other xs ys first second apart same =
    let names : other ≡ name = cc in
    let turned : true ≡ false = sym same ∙ subst (λ n. bytes_eq name n ≡ false) names apart in
    absurd cc

-- No request for a document has the name of `build` or of `view`.
apart_documents : (asked : Answered) → (bytes_eq (codes "build") (name_of (Document asked)) ≡ false)
    × (bytes_eq (codes "view") (name_of (Document asked)) ≡ false)
apart_documents (document.Sarif judging) = (refl, refl)
apart_documents (document.Classes compilation) = (refl, refl)
apart_documents (document.Flows compilation) = (refl, refl)
apart_documents (document.Audit audit) = (refl, refl)
apart_documents (document.AuditSarif audit) = (refl, refl)
apart_documents (document.Bound bounding) = (refl, refl)
apart_documents (document.Run execution initial_store) = (refl, refl)
apart_documents (document.Compare comparison) = (refl, refl)
apart_documents (document.Leak search) = (refl, refl)
apart_documents (document.List image) = (refl, refl)
apart_documents (document.Policy looking) = (refl, refl)
apart_documents (document.Visible visibility) = (refl, refl)
apart_documents (document.Layout source) = (refl, refl)

-- The paths and the profile of two builds.
pub record SameBuild (c d : Compilation) (i j : Bor (List ℕ)) : Type 0 where
  pub lattice : d.lattice.now ≡ c.lattice.now
  pub image : j.now ≡ i.now

-- Three words are three words.
three_words : (a b c x y z : List ℕ) → x ∷ y ∷ z ∷ [] ≡ a ∷ b ∷ c ∷ [] → (x ≡ a) × (z ≡ c)
three_words a b c x y z is = (cc, cc)

-- Two words are two words.
two_words : (a b x y : List ℕ) → x ∷ y ∷ [] ≡ a ∷ b ∷ [] → (x ≡ a) × (y ≡ b)
two_words a b x y is = (cc, cc)

-- One word is one word.
one_word : (a x : List ℕ) → x ∷ [] ≡ a ∷ [] → x ≡ a
one_word a x is = cc

-- Two builds that the same arguments request have the same paths.
same_build : (words : List (String Global)) (c d : Compilation) (i j : Bor (List ℕ)) → Spells words (Build c i) →
    Spells words (Build d j) → SameBuild c d i j
same_build words c d i j first second =
    let rest : second.rest ≡ first.rest =
    behind (texts words) (codes "build") first.rest second.rest first.named second.named in
    let same = three_words c.lattice.now c.source.now i.now d.lattice.now d.source.now j.now
    (sym second.has_operands ∙ ap (operands_in false) rest ∙ first.has_operands) in
    record { lattice = same.0; image = same.1 }

-- Arguments that request a build request only that build.
pub record OneBuild (c : Compilation) (i : Bor (List ℕ)) (request : Request) : Type 0 where
  pub compilation : Compilation
  pub image : Bor (List ℕ)
  pub is : request ≡ Build compilation image
  pub same : SameBuild c compilation i image

-- It is that build.
pub one_build : (words : List (String Global)) (c : Compilation) (i : Bor (List ℕ)) → AsksFor words (Build c i) →
    (request : Request) → AsksFor words request → OneBuild c i request
one_build words c i asks (Build d j) asked =
    record { compilation = d; image = j; is = refl; same = same_build words c d i j asks.spelled asked.spelled }
one_build words c i asks (Document found) asked =
    let named = is_named words (Document found) asked.spelled in
    absurd (other_name (texts words) (codes "build") (name_of (Document found)) asks.spelled.rest named.0
    asks.spelled.named named.1 (apart_documents found).0 refl)
one_build words c i asks request asked =
    let named = is_named words request asked.spelled in
    absurd (other_name (texts words) (codes "build") (name_of request) asks.spelled.rest named.0 asks.spelled.named
    named.1 refl refl)

-- The paths, the class and the settings of two views.
pub record SameView (l m x y : Bor (List ℕ)) (e f : Execution) (o p : InitialStore) : Type 0 where
  pub lattice : m.now ≡ l.now
  pub class : y.now ≡ x.now
  pub image : f.image.now ≡ e.image.now
  pub store : given f.store ≡ given e.store
  pub out : given p.out ≡ given o.out
  pub settings : shown p.settings.items ≡ shown o.settings.items
  pub is_full : p.is_full ≡ o.is_full

-- Two views that the same arguments request are the same.
same_view : (words : List (String Global)) (l m x y : Bor (List ℕ)) (e f : Execution) (o p : InitialStore) →
    Spells words (View l x e o) → Spells words (View m y f p) → SameView l m x y e f o p
same_view words l m x y e f o p first second =
    let rest : second.rest ≡ first.rest =
    behind (texts words) (codes "view") first.rest second.rest first.named second.named in
    let paths = two_words l.now e.image.now m.now f.image.now
    (sym second.has_operands ∙ ap (operands_in false) rest ∙ first.has_operands) in
    record {
      lattice = paths.0;
      class = one_word x.now y.now
          (sym second.has_options.0 ∙ ap (values_in (codes "--class") false) rest ∙ first.has_options.0);
      image = paths.1;
      store = sym second.has_options.1.0 ∙ ap (values_in (codes "--store") false) rest ∙ first.has_options.1.0;
      out = sym second.has_options.1.1.0 ∙ ap (values_in (codes "--out") false) rest ∙ first.has_options.1.1.0;
      settings = sym second.has_options.1.1.1.0 ∙ ap (values_in (codes "--set") false) rest
          ∙ first.has_options.1.1.1.0;
      is_full = sym second.has_flags.0 ∙ ap (has_flag (codes "--full-store")) rest ∙ first.has_flags.0;
    }

-- A list that has no value isn't given.
ungiven : (list : Option (Bor (List ℕ))) → given list ≡ [] → is_some list ≡ false
ungiven None none = refl
ungiven (Some text) none = absurd (cc)

-- A policy whose interface and lists have no values bounds nothing.
unbounding : (p : DrivePolicy) → given (interface_of p) ≡ [] → given (lists_of p).outputs ≡ [] →
    given (lists_of p).released ≡ [] → is_bounding p ≡ false
unbounding (policy.Lattice path lists) interface outputs released =
    let none : (is_some lists.outputs || is_some lists.released) ≡ false =
    rw (ungiven lists.outputs outputs, ungiven lists.released released) refl in
    none
unbounding (policy.Interface path) interface outputs released = absurd (cc)

-- Arguments don't request a view without a boundary and one within a boundary.
apart_lists : (words : List (String Global)) (l x : Bor (List ℕ)) (e : Execution) (o : InitialStore)
    (viewing : Viewing) → Spells words (View l x e o) → Spells words (ViewWithin viewing) → ⊥
apart_lists words l x e o viewing first second =
    let rest : second.asks.rest ≡ first.rest =
    behind (texts words) (codes "view") first.rest second.asks.rest first.named second.asks.named in
    let interface : given (interface_of viewing.policy) ≡ [] =
    sym second.asks.has_options.1.1.1.1.0 ∙ ap (values_in (codes "--interface") false) rest
    ∙ first.has_options.1.1.1.1.0 in
    let outputs : given (lists_of viewing.policy).outputs ≡ [] =
    sym second.asks.has_options.1.1.1.1.1.0 ∙ ap (values_in (codes "--outputs") false) rest
    ∙ first.has_options.1.1.1.1.1.0 in
    let released : given (lists_of viewing.policy).released ≡ [] =
    sym second.asks.has_options.1.1.1.1.1.1.0 ∙ ap (values_in (codes "--release") false) rest
    ∙ first.has_options.1.1.1.1.1.1.0 in
    let none : is_bounding viewing.policy ≡ false = unbounding viewing.policy interface outputs released in
    let turned : true ≡ false = sym second.listed ∙ none in absurd cc

-- Arguments that request a view request only that view.
pub record OneView (l x : Bor (List ℕ)) (e : Execution) (o : InitialStore) (request : Request) : Type 0 where
  pub lattice : Bor (List ℕ)
  pub class : Bor (List ℕ)
  pub execution : Execution
  pub initial_store : InitialStore
  pub is : request ≡ View lattice class execution initial_store
  pub same : SameView l lattice x class e execution o initial_store

-- It is that view.
pub one_view : (words : List (String Global)) (l x : Bor (List ℕ)) (e : Execution) (o : InitialStore) →
    AsksFor words (View l x e o) → (request : Request) → AsksFor words request → OneView l x e o request
one_view words l x e o asks (View m y f p) asked =
    record {
      lattice = m;
      class = y;
      execution = f;
      initial_store = p;
      is = refl;
      same = same_view words l m x y e f o p asks.spelled asked.spelled;
    }
one_view words l x e o asks (ViewWithin viewing) asked =
    absurd (apart_lists words l x e o viewing asks.spelled asked.spelled)
one_view words l x e o asks (Document found) asked =
    let named = is_named words (Document found) asked.spelled in
    absurd (other_name (texts words) (codes "view") (name_of (Document found)) asks.spelled.rest named.0
    asks.spelled.named named.1 (apart_documents found).1 refl)
one_view words l x e o asks request asked =
    let named = is_named words request asked.spelled in
    absurd (other_name (texts words) (codes "view") (name_of request) asks.spelled.rest named.0 asks.spelled.named
    named.1 refl refl)
