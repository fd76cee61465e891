-- The laws above products and quotients: what they say of the signed numbers that words stand for. Assumes nothing.
use Rattle.std.specs.Prelude.{◌≡◌, ℕ, ◌^◌, ◌<◌, false, ℤ, pos, ◌+ℤ◌, ◌*ℤ◌, ◌≤ℤ◌, Some, None, unsigned_abs}
use Rattle.word.specs.Exact.{signed}
use Rattle.word.specs.Products.{product_low, product_high_signed, product_overflows, quotient_signed}

-- the high word, signed, and the low word are the product of the signed numbers
abbrev pub ProductExact : Type 0
ProductExact =
    (a b : ℕ) → a < 2 ^ 32 → b < 2 ^ 32
    → signed (product_high_signed a b) *ℤ pos (2 ^ 32) +ℤ pos (product_low a b) ≡ signed a *ℤ signed b

-- a product does not overflow exactly where its low word alone is the product of the signed numbers
abbrev pub OverflowExact : Type 0
OverflowExact =
    (a b : ℕ) → a < 2 ^ 32 → b < 2 ^ 32
    → (product_overflows a b ≡ false → signed (product_low a b) ≡ signed a *ℤ signed b)
    × (signed (product_low a b) ≡ signed a *ℤ signed b → product_overflows a b ≡ false)

-- q is n divided by d and rounded toward zero: what is left is smaller than d, and on n's side of zero
pub record Quotient (n d q : ℤ) : Type 0 where
  pub rest : ℤ
  pub whole : n ≡ q *ℤ d +ℤ rest
  pub small : unsigned_abs rest < unsigned_abs d
  pub above : pos 0 ≤ℤ n → pos 0 ≤ℤ rest
  pub below : n ≤ℤ pos 0 → rest ≤ℤ pos 0

-- a signed quotient is that of the signed numbers, and there is none only where no word is
abbrev pub QuotientExact : Type 0
QuotientExact =
    (a b : ℕ) → a < 2 ^ 32 → b < 2 ^ 32
    → ((q : ℕ) → quotient_signed a b ≡ Some q → Quotient (signed a) (signed b) (signed q))
    × (quotient_signed a b ≡ None → (q : ℕ) → q < 2 ^ 32 → Quotient (signed a) (signed b) (signed q) → ⊥)
