-- Each record that is read is in range. Assumes nothing.
use Rattle.std.proofs.Common.{◌≡◌, ℕ, ◌+◌, ◌%◌, Bool, true, false, cond, ◌&&◌, eqb, leb, List, [], ◌∷◌, length, get_or, drop, Ok, Err, Result, refl, ap, ◌∙◌, subst, arith, length-drop}
use Rattle.std.specs.Int.Bits.{bit_and, and_self}
use Rattle.std.proofs.lemmas.Nat.{and_assoc}
use Rattle.std.proofs.lemmas.Bool.{leb-true, eqb-true, and_parts}
use Rattle.image.specs.declared.refusal.Reason.{Reason}
use Rattle.image.specs.declared.refusal.Reason.TheVariants.{Form, Range}
use Rattle.image.specs.Records.{Item, InRange, word_at, entry_of, data_of, start_of, record_of}

-- what a mask has left, it leaves
and_twice : (a m : ℕ) → bit_and (bit_and a m) m ≡ bit_and a m
and_twice a m = and_assoc m a m ∙ ap (bit_and a) (and_self m)

passed : (form range : Bool) (x i : Item) → (form ≡ true → range ≡ true → InRange x) → cond {A = Result Item Reason} form (cond range (Ok x) (Err Range)) (Err Form) ≡ Ok i → InRange i
passed true true x i h e = subst InRange (cc) (h refl refl)
passed true false x i h e = absurd (cc)
passed false range x i h e = absurd (cc)

entry_range : (bs : List ℕ) (i : Item) → entry_of bs ≡ Ok i → InRange i
entry_range bs i e = passed (eqb (length bs) 14) (leb (get_or bs 0 0) 63) _ i (λ f r. (leb-true _ _ r, and_twice (word_at bs 2) 0xFFFFFFF0, and_twice (word_at bs 6) 0xFFFFFC0F, and_twice (word_at bs 10) 0xFFBF)) e

data_range : (bs : List ℕ) (i : Item) → data_of bs ≡ Ok i → InRange i
data_range bs i e =
    passed (leb 6 (length bs) && leb (length bs) 1029) (leb (get_or bs 0 0) 15 && leb (word_at bs 1 % 1024 + length (drop 5 bs)) 1024) _ i
    (λ f r.
    let long = leb-true 6 (length bs) (and_parts _ _ f).0 in
    let within = and_parts _ _ r in
    (leb-true _ _ within.0, simp length-drop (omega arith), leb-true _ _ within.1))
    e

start_range : (bs : List ℕ) (i : Item) → start_of bs ≡ Ok i → InRange i
start_range bs i e =
    passed (eqb (length bs) 8) (eqb (word_at bs 0 % 4) 0 && eqb (bit_and (word_at bs 4) 0x2D230) (word_at bs 4)) _ i
    (λ f r. let within = and_parts _ _ r in (eqb-true _ _ within.0, eqb-true _ _ within.1))
    e

kind_range : (one two three : Bool) (body : List ℕ) (i : Item) → cond one (entry_of body) (cond two (data_of body) (cond three (start_of body) (Err Form))) ≡ Ok i → InRange i
kind_range true two three body i e = entry_range body i e
kind_range false true three body i e = data_range body i e
kind_range false false true body i e = start_range body i e
kind_range false false false body i e = absurd (cc)

pub in_range : (bs : List ℕ) (i : Item) → record_of bs ≡ Ok i → InRange i
in_range [] i e = absurd (cc)
in_range (kind ∷ body) i e = kind_range (eqb kind 1) (eqb kind 2) (eqb kind 3) body i e
