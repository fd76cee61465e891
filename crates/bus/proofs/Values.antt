-- A value that is put somewhere stands there.
use Rattle.std.proofs.Common.{◌≡◌, ℕ, ◌*◌, ◌%◌, ◌^◌, inl, inr, div-one, arith}
use Rattle.std.proofs.lemmas.Nat.{mod-pow-add}
use Rattle.bus.specs.Model.{Bytes, IsWidth, big_endian, put_at}

pub put_value : (b : Bytes) (o v w : ℕ) → IsWidth w → big_endian (put_at b o w v) o w ≡ v % 2 ^ (8 * w)
put_value b o v w (inl e) = grind (arith, div-one v)
put_value b o v w (inr (inl e)) = grind (arith, div-one v, mod-pow-add v 8 8)
put_value b o v w (inr (inr e)) = grind (arith, div-one v, mod-pow-add v 8 24, mod-pow-add v 8 16, mod-pow-add v 8 8)
