-- What a few bytes written over a part of the whole make of it.
use Rattle.std.proofs.Common.{◌≡◌, ℕ, zero, suc, ◌+◌, ◌-◌, ◌/◌, ◌%◌, ◌<◌, ◌≤◌, ◌&&◌, cond, nat_le, nat_lt, List, [], ◌∷◌, length, take, drop, ◌∙◌, div-one, arith}
use Rattle.std.proofs.lemmas.List.{places}
use Rattle.std.proofs.lemmas.Grind.{common_steps}
use borrow.Rule.Slice.PartMut.{put_mid}
use Rattle.memory.specs.Memory.{byte_of}
use Rattle.bus.specs.Model.{digit, put_at}

put_byte : (s ys : List ℕ) (o w k : ℕ) → length ys ≡ w → o + w ≤ length s →
    byte_of (put_mid o w s ys) k ≡ cond (nat_le o k && nat_lt k (o + w)) (byte_of ys (k - o)) (byte_of s k)
put_byte s ys o w k e h = grind (arith, common_steps, places)

-- the bytes of a word
abbrev word : ℕ → List ℕ
word v = v / 16777216 % 256 ∷ v / 65536 % 256 ∷ v / 256 % 256 ∷ v % 256 ∷ []

word_at : (v i : ℕ) → i < 4 → byte_of (word v) i ≡ digit 4 v i
word_at v zero h = grind arith
word_at v (suc zero) h = grind arith
word_at v (suc (suc zero)) h = grind arith
word_at v (suc (suc (suc zero))) h = grind (arith, div-one v)
word_at v (suc (suc (suc (suc i)))) h = absurd (omega arith)

last_at : (v w j : ℕ) → w ≤ 4 → j < w → byte_of (take (4 - (4 - w)) (drop (4 - w) (word v))) j ≡ digit w v j
last_at v w j h l = let e = word_at v (4 - w + j) (omega arith) in let x : 4 - 1 - (4 - w + j) ≡ w - 1 - j = omega arith in grind (arith, places)

-- the last bytes of a word
pub put_low : (s ys : List ℕ) (o w n v k : ℕ) → w ≤ 4 → o + w ≤ length s → n ≡ w →
    ys ≡ take (4 - (4 - w)) (drop (4 - w) (word v)) → byte_of (put_mid o n s ys) k ≡ put_at (byte_of s) o w v k
put_low s ys o w n v k l h p q =
    let e : length ys ≡ n = simp q (grind (arith, common_steps)) in
    put_byte s ys o n k e (omega arith) ∙ simp (p, q) (let d = last_at v w (k - o) l in grind arith)
