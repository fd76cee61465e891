-- What one step reads, and that reading from a place on comes to its end. Assumes nothing.
use Rattle.std.proofs.Common.{◌≡◌, ℕ, zero, suc, ◌+◌, ◌*◌, ◌<◌, ◌≤◌, Bool, true, false, cond, leb, List, [], ◌∷◌, ◌++◌, length, get_or, take, drop, Ok, Err, Result, sym, refl, ap, ◌∙◌, subst, inl, inr, arith, length-append, take-append-drop, length-take-le}
use Rattle.std.proofs.lemmas.Bool.{leb-true, leb-false, le-leb, cond-true, cond-false}
use Rattle.image.specs.declared.refusal.Reason.{Reason}
use Rattle.image.specs.declared.refusal.Reason.TheVariants.{Truncated}
use Rattle.image.specs.declared.refusal.Refusal.{Refusal}
use Rattle.image.specs.Format.{Wrong}
use Rattle.image.specs.Records.{Item, is_start, record_of}
use Rattle.image.specs.Reading.{Place, offset_of, Step, one, end, refused, fault, taken, unstarted, ended, step, begin, more, after, walk, walked}

pub begins : (image : List ℕ) → length image ≤ 65535 → get_or image 0 0 ≡ 1 → begin image ≡ Ok (record { rest = drop 1 image; size = length image; started = false })
begins [] most first = absurd (omega arith)
begins (version ∷ rest) most first = rw (le-leb _ _ most, first)

-- a record of n bytes, in the words of the code: its bytes are the front of rest, and r is what they mean
module _ (p : Place) (r : Result Item Reason) (rest front : List ℕ) (n : ℕ) where
  at_rest : (bs : List ℕ) → 2 ≤ length bs → rest ≡ drop 2 bs → n ≡ get_or bs 0 0 * 256 + get_or bs 1 0 → n ≤ length rest → front ≡ take n rest → r ≡ record_of front → unstarted p bs ≡ taken p n rest r
  at_rest [] two is count all cut means = absurd (omega arith)
  at_rest (high ∷ []) two is count all cut means = absurd (omega arith)
  at_rest (high ∷ low ∷ tail) two is count all cut means =
      let told : record_of (take (high * 256 + low) tail) ≡ r = cc in
      let fits : high * 256 + low ≤ length tail = omega (arith, ap length is) in
      cond-true _ _ _ (le-leb _ _ fits) ∙ (λ j. taken p (sym count j) (sym is j) (told j))

  pub framed : p.started ≡ false → 2 ≤ length p.rest → rest ≡ drop 2 p.rest → n ≡ get_or p.rest 0 0 * 256 + get_or p.rest 1 0 → n ≤ length rest → front ≡ take n rest → r ≡ record_of front → step p ≡ taken p n rest r
  framed on two is count all cut means = cond-false p.started _ _ on ∙ at_rest p.rest two is count all cut means

-- where a record came from
pub record Taken (p : Place) (i : Item) (q : Place) : Type 0 where
  pub high : ℕ
  pub low : ℕ
  pub body : List ℕ
  pub before : p.started ≡ false
  pub front : p.rest ≡ high ∷ low ∷ (body ++ q.rest)
  pub counts : length body ≡ high * 256 + low
  pub means : record_of body ≡ Ok i
  pub started : q.started ≡ is_start i
  pub size : q.size ≡ p.size

-- what a step says of the bytes left, and of whether the start has come
abbrev pub Says : Place → Bool → List ℕ → Step → Type 0
Says p b bs (one i q) = Taken p i q
Says p b bs (end q) = (b ≡ true) × (bs ≡ [])
Says p b bs (refused x q) = Wrong b bs x.reason × (x.offset ≡ offset_of p)

module _ (p : Place) (high low : ℕ) (rest : List ℕ) (on : p.started ≡ false) (is : p.rest ≡ high ∷ low ∷ rest) where
  says_record : (r : Result Item Reason) → record_of (take (high * 256 + low) rest) ≡ r → high * 256 + low ≤ length rest → Says p false (high ∷ low ∷ rest) (taken p (high * 256 + low) rest r)
  says_record (Ok i) m all =
      record {
        high = high;
        low = low;
        body = take (high * 256 + low) rest;
        before = on;
        front = is ∙ ap (λ r. high ∷ low ∷ r) (sym (take-append-drop (high * 256 + low) rest));
        counts = length-take-le (high * 256 + low) rest all;
        means = m;
        started = refl;
        size = refl;
      }
  says_record (Err why) m all = (inr (all, m), refl)

  says_length : (b : Bool) → leb (high * 256 + low) (length rest) ≡ b → Says p false (high ∷ low ∷ rest) (cond b (taken p (high * 256 + low) rest (record_of (take (high * 256 + low) rest))) (fault p Truncated))
  says_length true t = says_record (record_of (take (high * 256 + low) rest)) refl (leb-true _ _ t)
  says_length false t = (inl (leb-false _ _ t, refl), refl)

says_at : (p : Place) (b : Bool) (bs : List ℕ) → p.started ≡ b → p.rest ≡ bs → Says p b bs (cond b (ended p bs) (unstarted p bs))
says_at p true [] on is = (refl, refl)
says_at p true (c ∷ bs) on is = (refl, refl)
says_at p false [] on is = (refl, refl)
says_at p false (high ∷ []) on is = (refl, refl)
says_at p false (high ∷ low ∷ rest) on is = says_length p high low rest on is (leb (high * 256 + low) (length rest)) refl

pub says : (p : Place) (s : Step) → s ≡ step p → Says p p.started p.rest s
says p s e = subst (Says p p.started p.rest) (sym e) (says_at p p.started p.rest refl refl)

pub shorter : (p : Place) (i : Item) (q : Place) → one i q ≡ step p → length q.rest < length p.rest
shorter p i q e = let t = says p (one i q) e in omega (arith, ap length t.front, length-append t.body q.rest)

after_same : (f g : Place → Result (List Item) Refusal) (p : Place) (s : Step) → s ≡ step p → ((q : Place) → length q.rest < length p.rest → f q ≡ g q) → after f s ≡ after g s
after_same f g p (one i q) e h = ap (more i) (h q (shorter p i q e))
after_same f g p (end q) e h = refl
after_same f g p (refused x q) e h = refl

enough : (n m : ℕ) (p : Place) → length p.rest < n → length p.rest < m → walk n p ≡ walk m p
unfolding walk
enough zero m p h k = absurd (omega arith)
enough (suc n) zero p h k = absurd (omega arith)
enough (suc n) (suc m) p h k = after_same (walk n) (walk m) p (step p) refl (λ q less. enough n m q (omega arith) (omega arith))

pub unfolds : (p : Place) → walked p ≡ after walked (step p)
unfolding walk
unfolds p = after_same (walk (length p.rest)) walked p (step p) refl (λ q less. enough (length p.rest) (suc (length q.rest)) q less (omega arith))
