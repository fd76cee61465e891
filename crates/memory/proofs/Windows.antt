-- What a write makes of plain memory.
use Rattle.std.proofs.Common.{◌≡◌, ℕ, ◌+◌, ◌-◌, ◌*◌, ◌/◌, ◌≤◌, Bool, true, false, cond, eqb, ltb, List, length, None, ◌&&◌, sym, refl, ap, ◌∙◌, arith}
use mathlib.Core.Path.{fun_ext}
use Rattle.bus.specs.Model.{Bytes, put_at, written, after, frame_of, offset_of}
use Rattle.memory.specs.Memory.{byte_of, in_window, window_denial, window_wiring, memory, outside}
use Rattle.bus.proofs.Models.{model_ext, after_served}
use Rattle.std.proofs.lemmas.Bool.Decides.{eqb_tells}

-- of a put inside the frame `q` of a window: what stands in it, and in another frame
put_inside : (b : Bytes) (q o w v k : ℕ) → put_at b (q * 1024 + o) w v (q * 1024 + k) ≡ put_at (λ j. b (q * 1024 + j)) o w v k
put_inside b q o w v k = grind arith

put_other : (b : Bytes) (q o w v k : ℕ) → o + w ≤ 1024 → (k / 1024 ≡ q → ⊥) → put_at b (q * 1024 + o) w v k ≡ b k
put_other b q o w v k h n = grind arith

-- a frame that the window has, or has not, after a put inside the frame `g`
frame_put : (x : Bool) (first g o w v f k : ℕ) (b t : Bytes) → (x ≡ true → first ≤ f) → (f ≡ g → x ≡ true) → first ≤ g → o + w ≤ 1024 →
    t ((f - first) * 1024 + k) ≡ put_at b ((g - first) * 1024 + o) w v ((f - first) * 1024 + k) →
    cond (x && ltb k 1024) (t ((f - first) * 1024 + k)) 0
    ≡ cond (eqb f g) (put_at (λ j. cond (x && ltb j 1024) (b ((f - first) * 1024 + j)) 0) o w v k) (cond (x && ltb k 1024) (b ((f - first) * 1024 + k)) 0)
frame_put false first g o w v f k b t l h m r e = let d = eqb_tells f g in grind arith
frame_put true first g o w v f k b t l h m r e = by (ltb k 1024) (eqb f g) refl refl
  where
    by : (y z : Bool) → ltb k 1024 ≡ y → eqb f g ≡ z →
        cond y (t ((f - first) * 1024 + k)) 0
        ≡ cond z (put_at (λ j. cond (ltb j 1024) (b ((f - first) * 1024 + j)) 0) o w v k) (cond y (b ((f - first) * 1024 + k)) 0)
    by false true p q = grind arith
    by false false p q = refl
    by true true p q =
        let n = eqb_tells f g in
        let d : f ≡ g = grind arith in
        e ∙ simp d (put_inside b (g - first) o w v k ∙ grind arith)
    by true false p q =
        let n = eqb_tells f g in
        let d = l refl in
        e ∙ put_other b (g - first) o w v _ r (λ c. grind arith)

module _ (first : ℕ) (s t : List ℕ) (a w v : ℕ) (served : window_denial first (length s) a w ≡ None) (same : length t ≡ length s)
    (put : (k : ℕ) → byte_of t k ≡ put_at (byte_of s) (a - first * 1024) w v k) where
  room : offset_of a + w ≤ 1024
  room = grind arith

  there : in_window first (length s) (frame_of a) ≡ true
  there = grind arith

  place : a - first * 1024 ≡ (frame_of a - first) * 1024 + offset_of a
  place = grind arith

  bytes-written : (f k : ℕ) → (memory first t).bytes f k ≡ (written (memory first s) a w v).bytes f k
  bytes-written f k =
      let h = there in
      simp same
      (frame_put (in_window first (length s) f) first (frame_of a) (offset_of a) w v f k (byte_of s) (byte_of t)
      (λ p. grind arith) (λ p. simp p there) (grind arith) room (put _ ∙ simp place))

  -- the bytes outside the frames stay
  pub outside_kept : outside first t ≡ outside first s
  outside_kept = fun_ext (λ k. by k (in_window first (length s) (first + k / 1024)) refl)
    where
      by : (k : ℕ) (x : Bool) → in_window first (length s) (first + k / 1024) ≡ x → outside first t k ≡ outside first s k
      by k true p = simp (same, p)
      by k false p =
          let n : k / 1024 ≡ frame_of a - first → ⊥ = λ q. let h = there in grind arith in
          simp (same, p) (put k ∙ simp place (put_other (byte_of s) (frame_of a - first) (offset_of a) w v k room n))

  pub memory-written : memory first t ≡ after (memory first s) a w v
  memory-written =
      model_ext (memory first t) (written (memory first s) a w v) bytes-written (ap (window_wiring first) same)
      ∙ sym (after_served (memory first s) a w v served)
