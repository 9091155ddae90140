-- The contents of a lattice file, step by step.
use Rattle.std.proofs.Common.{◌≡◌, ℕ, ◌<◌, ◌≤◌, List, length, map, Option, Some, refl, sym, ap, ◌∙◌, subst, arith, String, Global, string_bytes, Bor, Result, Ok, Err, IfErr, option_and_then, unwrap_or}
use Rattle.toml.specs.Parse.{parse_document}
use Rattle.vsi_lattice.proofs.NameLemmas.{text_of, texts_of}
use Rattle.toml.specs.Data.{Members}
use Rattle.vsi_lattice.specs.Order.{Lattice}
use Rattle.vsi_lattice.specs.Pairs.{Leq, MakesLattice, IsDeclared}
use Rattle.vsi_lattice.specs.NamePlaces.{Never, IsBadName, StandsEarlier, IsUnknownAt, number_of}
use Rattle.vsi_lattice.specs.NameRules.{AreNames}
use Rattle.vsi_lattice.specs.Shape.{File, IsToml, file_of, IsFile}
use Rattle.vsi_lattice.specs.OrderFaults.{NamesFault}
use Rattle.vsi_lattice.specs.FileFaults.{numbers, HasNames, HasPairs, IsAccepted, IsFault, IsOf, ExplainsLattice, of_order}
use Rattle.vsi_lattice.specs.declared.order.OrderError.{OrderError}
use Rattle.vsi_lattice.specs.declared.order.OrderError.TheVariants as order
use Rattle.vsi_lattice.specs.declared.reader.LatticeError.{LatticeError}
use Rattle.vsi_lattice.specs.declared.reader.LatticeError.TheVariants as errors

-- A fault of the order is a fault of the file.
pub order_fault : (f : File) (o : OrderError) (e : LatticeError) → e ≡ of_order o → HasPairs f →
    NamesFault (length f.names) (numbers f) o → IsFault f e
order_fault f order.Memory e q h n = subst (IsFault f) (sym q) tt
order_fault f (order.Cycle a b) e q h n = subst (IsFault f) (sym q) (h, n)
order_fault f (order.NoJoin a b) e q h n = subst (IsFault f) (sym q) (h, n)
order_fault f (order.NoMeet a b) e q h n = subst (IsFault f) (sym q) (h, n)

-- The pairs of positions as the code computes them.
pub numbered : (names : List (List ℕ)) (pairs : List (List ℕ × List ℕ)) (kept now : List (String Global))
    (items found : List (ℕ × ℕ)) →
    found ≡ items → items ≡ map (number_of (map string_bytes now)) pairs → now ≡ kept →
    map string_bytes kept ≡ names →
    found ≡ map (number_of names) pairs
numbered names pairs kept now items found e f g h =
    e ∙ (f ∙ (ap (λ ks. map (number_of (map string_bytes ks)) pairs) g ∙ ap (λ ns. map (number_of ns) pairs) h))

-- No pair is unknown, in terms of the names that the code keeps.
pub known_of : (names : List (List ℕ)) (pairs : List (List ℕ × List ℕ)) (kept now : List (String Global)) →
    now ≡ kept →
    map string_bytes kept ≡ names → Never (IsUnknownAt (map string_bytes now) pairs) → Never (IsUnknownAt names pairs)
known_of names pairs kept now g h n =
    subst (λ ns. Never (IsUnknownAt ns pairs)) (ap (λ ks. map string_bytes ks) g ∙ h) n

-- The names of a lattice, from those of the file.
pub are_names : (f : File) (xs : List (List ℕ)) (count : ℕ) → xs ≡ f.names → HasNames f → count ≡ length f.names →
    AreNames xs count
are_names f xs count e h q = record {
  one_each = ap (λ (l : List (List ℕ)). length l) e ∙ sym q;
  some = subst (λ n. 0 < n) (sym q) h.counted.some;
  few = subst (λ n. n ≤ 64) (sym q) h.counted.few;
  named = subst (λ ns. Never (IsBadName ns)) (sym e) h.named;
  distinct = subst (λ ns. Never (StandsEarlier ns)) (sym e) h.distinct;
}

-- The file has 1 to 64 distinct names.
pub has_names : (f : File) (n : ℕ) → length f.names ≡ n → 0 < n → n ≤ 64 → Never (IsBadName f.names) →
    Never (StandsEarlier f.names) →
    HasNames f
has_names f n e some few named distinct = record {
  counted = record { some = omega (arith, e, some); few = omega (arith, e, few) };
  named = named;
  distinct = distinct;
}

-- A fault of the order, in terms of the positions that the code keeps.
pub fault_along : {m n : ℕ} {ps qs : List (ℕ × ℕ)} → m ≡ n → ps ≡ qs → (o : OrderError) → NamesFault m ps o →
    NamesFault n qs o
fault_along {m} {n} {ps} {qs} e g o h = subst (λ k. NamesFault k qs o) e (subst (λ xs. NamesFault m xs o) g h)

-- The lattice of a file.
pub is_of : (f : File) (n : ℕ) (ps : List (ℕ × ℕ)) (made kept : Lattice) (names : List (List ℕ)) → HasPairs f →
    n ≡ length f.names →
    ps ≡ numbers f → MakesLattice n (Leq ps) → IsDeclared n ps made → names ≡ f.names → kept ≡ made →
    IsOf f names kept
is_of f n ps made kept names h e g l d same k = record {
  accepted =
      record {
        pairs = h;
        lattice =
            subst (λ xs. MakesLattice (length f.names) (Leq xs)) g (subst (λ m. MakesLattice m (Leq ps)) e l);
      };
  names_are = same;
  order_is =
      subst (λ xs. IsDeclared (length f.names) xs kept) g (subst (λ m. IsDeclared m ps kept) e
      (subst (IsDeclared n ps) (sym k) d));
}

-- The file that the code has found.
pub file_here : (names nows : List (Bor (List ℕ))) (pairs pows : List (Bor (List ℕ) × Bor (List ℕ))) (text : List ℕ)
    (ms : Members) →
    nows ≡ names → pows ≡ pairs → IsToml text ms →
    Some (record { names = map text_of names; pairs = map texts_of pairs }) ≡ file_of ms →
    IsFile text (record { names = map text_of nows; pairs = map texts_of pows })
file_here names nows pairs pows text ms e f t h = (
  ms,
  t,
  sym h ∙ (ap (λ rs. Some (record { names = map text_of rs; pairs = map texts_of pairs })) (sym e)
      ∙ ap (λ ps. Some (record { names = map text_of nows; pairs = map texts_of ps })) (sym f)),
)

-- A property of the error implies a weaker one.
pub on_error : {X : Type 0} {P Q : LatticeError → Type 0} (r : Result X LatticeError) →
    ((e : LatticeError) → P e → Q e) → IfErr r P → IfErr r Q
on_error (Ok x) f h = h
on_error (Err e) f h = f e h

-- A fault of the file is a fault of the text.
pub explained : (text : List ℕ) (f : File) → IsFile text f → (e : LatticeError) → IsFault f e → ExplainsLattice text e
explained text f is errors.Memory h = tt
explained text f is errors.NotToml h = absurd h
explained text f is errors.BadShape h = absurd h
explained text f is errors.NoClass h = (f, is, h)
explained text f is errors.TooManyClasses h = (f, is, h)
explained text f is (errors.BadName i) h = (f, is, h)
explained text f is (errors.DuplicateName i) h = (f, is, h)
explained text f is (errors.UnknownName i) h = (f, is, h)
explained text f is (errors.Cycle a b) h = (f, is, h)
explained text f is (errors.NoJoin a b) h = (f, is, h)
explained text f is (errors.NoMeet a b) h = (f, is, h)

-- An accepted file has no fault.
pub accepted_fault : (f : File) → IsAccepted f → (e : LatticeError) → IsFault f e → e ≡ errors.Memory
accepted_fault f a errors.Memory h = refl
accepted_fault f a errors.NotToml h = absurd h
accepted_fault f a errors.BadShape h = absurd h
accepted_fault f a errors.NoClass h = absurd (omega (arith, h, a.pairs.names.counted.some))
accepted_fault f a errors.TooManyClasses h = absurd (omega (arith, h, a.pairs.names.counted.few))
accepted_fault f a (errors.BadName i) h = absurd (a.pairs.names.named i h.1.holds)
accepted_fault f a (errors.DuplicateName i) h = absurd (a.pairs.names.distinct i h.2.holds)
accepted_fault f a (errors.UnknownName i) h = absurd (a.pairs.known i h.1.holds)
accepted_fault f a (errors.Cycle x y) h = absurd (a.lattice.acyclic x y h.1.a_within h.1.b_within h.1.holds)
accepted_fault f a (errors.NoJoin x y) h = absurd (h.1.1.holds (a.lattice.joins x y h.1.1.a_within h.1.1.b_within))
accepted_fault f a (errors.NoMeet x y) h = absurd (h.1.2.holds (a.lattice.meets x y h.1.2.a_within h.1.2.b_within))

-- The file that a text denotes.
unfoldable file_at : List ℕ → Option File
file_at text = option_and_then file_of (parse_document text)

-- The text of a file denotes that file.
one_file : {text : List ℕ} {f : File} → IsFile text f → file_at text ≡ Some f
unfolding file_at
one_file (ms, t, e) = ap (option_and_then file_of) t.1 ∙ e

-- Two files of one text are equal.
pub same_file : {text : List ℕ} {f g : File} → IsFile text f → IsFile text g → f ≡ g
same_file {text} {f} {g} p q = ap (λ (o : Option File). unwrap_or o f) (sym (one_file p) ∙ one_file q)

-- A file that the code has found has no fault if a file of the text is accepted.
pub accepted_here : {X : Type 0} (text : List ℕ) (f g : File) (r : Result X LatticeError) → IsFile text f →
    IfErr r (IsFault f) →
    IsFile text g → IsAccepted g → IfErr r (λ e. e ≡ errors.Memory)
accepted_here text f g r p h q a = on_error r (accepted_fault f (subst IsAccepted (same_file q p) a)) h
