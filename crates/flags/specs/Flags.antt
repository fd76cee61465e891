-- The flag page: one frame, zero but for two words.
use Rattle.std.specs.Prelude.{ℕ, ◌-◌, ◌^◌, Bool, cond, not, ◌&&◌, ◌||◌, Some, None, Option, ◌==◌, bit_and, nat_lt}
use Rattle.bus.specs.Model.{Model, Wiring, Bytes, put_at, well_formed, frame_of, offset_of, big_endian}
use Rattle.flags.specs.declared.FlagPage.{FlagPage}

-- whether `f` is the frame of the page `n`, if there is such a frame
abbrev pub is_page : ℕ → ℕ → Bool
is_page n f = f == n && nat_lt f (2 ^ 26)

-- FLAGS at offset 0, ENABLE at offset 4, and zero elsewhere
abbrev pub page_bytes : ℕ → ℕ → Bytes
page_bytes flags enable = put_at (put_at (λ _. 0) 0 4 flags) 4 4 enable

-- another width than 4 is denied with 3, and then another word with 2
abbrev pub page_denial : ℕ → ℕ → ℕ → Option ℕ
page_denial n a w =
    cond (well_formed a w)
    (cond (is_page n (frame_of a))
    (cond (w == 4) (cond (offset_of a == 0 || offset_of a == 4) None (Some 2)) (Some 3))
    (Some 1))
    (Some 254)

-- a word without the bits that are one in `v`
abbrev pub without : ℕ → ℕ → ℕ
without x v = bit_and x (2 ^ 32 - 1 - v)

-- writing FLAGS clears bits, writing ENABLE stores the value
abbrev pub page_rule : Bytes → ℕ → ℕ → ℕ → Bytes
page_rule b o w v k = cond (o == 0) (put_at b 0 4 (without (big_endian b 0 4) v) k) (put_at b 4 4 v k)

abbrev pub page_wiring : ℕ → Wiring
page_wiring n = record {
  absent = λ f. not (is_page n f);
  denial = λ _ a w. page_denial n a w;
  rule = λ _. page_rule;
}

-- the flag page at the frame `n` with these two words
abbrev pub page : ℕ → ℕ → ℕ → Model
page n flags enable = record {
  bytes = λ f k. cond (is_page n f) (page_bytes flags enable k) 0;
  wiring = page_wiring n;
}

-- the model of a `FlagPage`
abbrev pub model_of : FlagPage → Model
model_of p = page p.frame p.flags p.enable
