use Rattle.std.proofs.Common.{◌≡◌, arith, rules}
use Rattle.memory.proofs.Putting.{put_low}
use Rattle.memory.proofs.put.Goals as goal

pub returns-in-2 : goal.returns-in-2
returns-in-2 c k = simp c.in-2.is (put_low c.args.bytes.now _ c.args.place 2 _ c.args.value k (omega arith) (omega arith) (omega arith) (search rules))

pub returns-in_default : goal.returns-in_default
returns-in_default c k =
    let w : c.args.width ≡ 4 = search rules in
    simp w (put_low c.args.bytes.now _ c.args.place 4 _ c.args.value k (omega arith) (omega arith) (omega arith) (search rules))
