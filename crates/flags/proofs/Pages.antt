-- What is read from the flag page, and what a write makes of it.
use Rattle.std.proofs.Common.{◌≡◌, ℕ, ◌-◌, ◌%◌, ◌^◌, Bool, true, false, eqb, None, Ok, Result, sym, refl, ◌∙◌, inr, arith}
use Rattle.bus.specs.Model.{big_endian, put_at, read_of, written, after, frame_of, offset_of}
use Rattle.flags.specs.Flags.{without, page_bytes, is_page, page_denial, page_rule, page}
use Rattle.bus.proofs.Models.{model_ext, after_served}
use Rattle.std.proofs.lemmas.Bool.Decides.{eqb_tells}
use Rattle.std.proofs.lemmas.Nat.{and_mod, and_le_r}
use Rattle.bus.proofs.Values.{put_value}

-- the two words of a page
value_flags : (x y : ℕ) → big_endian (page_bytes x y) 0 4 ≡ x % 2 ^ 32
value_flags x y = put_value (λ _. 0) 0 x 4 (inr (inr refl))

value_enable : (x y : ℕ) → big_endian (page_bytes x y) 4 4 ≡ y % 2 ^ 32
value_enable x y = put_value (put_at (λ _. 0) 0 4 x) 4 y 4 (inr (inr refl))

-- a word put over the page is a page
put_flags : (x y z k : ℕ) → put_at (page_bytes x y) 0 4 z k ≡ page_bytes z y k
put_flags x y z k = grind arith

put_enable : (x y z k : ℕ) → put_at (page_bytes x y) 4 4 z k ≡ page_bytes x z k
put_enable x y z k = grind arith

-- a word is what its low 32 bits are
low_bits : (x v : ℕ) → without (x % 2 ^ 32) v ≡ without x v
low_bits x v =
    let e = and_mod x (2 ^ 32 - 1 - v) 32 in
    let l = and_le_r x (2 ^ 32 - 1 - v) in
    let m = and_le_r (x % 2 ^ 32) (2 ^ 32 - 1 - v) in
    grind arith

module _ (n x y a w : ℕ) (served : page_denial n a w ≡ None) where
  word : w ≡ 4
  word = grind arith

  there : is_page n (frame_of a) ≡ true
  there = grind arith

  pub read_flags : offset_of a ≡ 0 → ◌≡◌ {A = Result ℕ ℕ} (Ok (x % 2 ^ 32)) (read_of (page n x y) a w)
  read_flags o = let e = value_flags x y in let f = word in let g = there in simp (word, o) (grind arith)

  pub read_enable : offset_of a ≡ 4 → ◌≡◌ {A = Result ℕ ℕ} (Ok (y % 2 ^ 32)) (read_of (page n x y) a w)
  read_enable o = let e = value_enable x y in let f = word in let g = there in simp (word, o) (grind arith)

  -- a write that makes of the page's bytes those of the words x' and y'
  wrote : (v x' y' : ℕ) → ((k : ℕ) → page_rule (page_bytes x y) (offset_of a) w v k ≡ page_bytes x' y' k) → page n x' y' ≡ after (page n x y) a w v
  wrote v x' y' h =
      model_ext (page n x' y') (written (page n x y) a w v) (λ f k. by f k (is_page n f) (eqb f (frame_of a)) refl refl) refl
      ∙ sym (after_served (page n x y) a w v served)
    where
      by : (f k : ℕ) (s t : Bool) → is_page n f ≡ s → eqb f (frame_of a) ≡ t → (page n x' y').bytes f k ≡ (written (page n x y) a w v).bytes f k
      by f k true true e d = simp (e, d, page) (sym (h k))
      by f k true false e d = let z : f ≡ frame_of a = (let g = there in grind arith) in let u = eqb_tells f (frame_of a) in grind arith
      by f k false t e d = let u = eqb_tells f (frame_of a) in let g = there in grind arith

  pub wrote_flags : (v : ℕ) → offset_of a ≡ 0 → page n (without x v) y ≡ after (page n x y) a w v
  wrote_flags v o = wrote v (without x v) y (λ k. simp o (let e = value_flags x y in let l = low_bits x v in let f = put_flags x y (without x v) k in grind arith))

  pub wrote_enable : (v : ℕ) → offset_of a ≡ 4 → page n x v ≡ after (page n x y) a w v
  wrote_enable v o = wrote v x v (λ k. let f = put_enable x y v k in grind arith)
