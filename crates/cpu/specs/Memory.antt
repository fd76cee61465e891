-- The loads and stores: their addresses, what is loaded and stored, and what they leave in the working registers once the
-- access is made. Assumes nothing.
use Rattle.std.specs.Prelude.{ℕ, ◌+◌, ◌%◌, Bool, true, false, cond, ◌||◌, Some, None, Option}
use Rattle.isa.specs.declared.instruction.Offset.{Offset}
use Rattle.isa.specs.declared.instruction.Offset.TheVariants.{Displacement, Index}
use Rattle.isa.specs.declared.instruction.LoadOp.{LoadOp}
use Rattle.isa.specs.declared.instruction.LoadOp.TheVariants.{Lbz, Lhz, Lha, Lwz}
use Rattle.isa.specs.declared.instruction.StoreOp.{StoreOp}
use Rattle.isa.specs.declared.instruction.StoreOp.TheVariants.{Stb, Sth, Stw}
use Rattle.isa.specs.declared.instruction.LoadIndexedOp.{LoadIndexedOp}
use Rattle.isa.specs.declared.instruction.LoadIndexedOp.TheVariants.{Lhbrx, Lwbrx, Lwarx}
use Rattle.isa.specs.declared.instruction.StoreIndexedOp.{StoreIndexedOp}
use Rattle.isa.specs.declared.instruction.StoreIndexedOp.TheVariants.{Sthbrx, Stwbrx}
use Rattle.isa.specs.declared.instruction.Load.{Load}
use Rattle.isa.specs.declared.instruction.Store.{Store}
use Rattle.isa.specs.declared.instruction.LoadIndexed.{LoadIndexed}
use Rattle.isa.specs.declared.instruction.StoreIndexed.{StoreIndexed}
use Rattle.isa.specs.declared.instruction.StoreConditional.{StoreConditional}
use Rattle.word.specs.Words.{wrap, extended, reversed, reversed_half}
use Rattle.cpu.specs.declared.registers.Working.{Working}
use Rattle.cpu.specs.declared.deed.Conversion.{Conversion}
use Rattle.cpu.specs.declared.deed.Conversion.TheVariants.{Plain, SignedHalf, ReversedHalf, ReversedWord}
use Rattle.cpu.specs.declared.deed.Loading.{Loading}
use Rattle.cpu.specs.declared.deed.Storing.{Storing}
use Rattle.cpu.specs.Registers.{gpr_of, base_of, next, with_gpr, with_reserved}
use Rattle.cpu.specs.Integer.{with_answer}

-- an effective address: the base, where register 0 stands for zero, and a displacement extended by its sign or a register
abbrev pub offset_of : Working → Offset → ℕ
offset_of w (Displacement d) = extended 16 (d % 0x10000)
offset_of w (Index rb) = gpr_of w rb

abbrev pub address_of : Working → ℕ → Offset → ℕ
address_of w ra o = wrap (base_of w ra + offset_of w o)

-- an update form's base register
abbrev pub updating : Bool → ℕ → Option ℕ
updating update ra = cond update (Some ra) None

-- the base register gets the address
abbrev pub updated : Option ℕ → ℕ → Working → Working
updated None a w = w
updated (Some ra) a w = with_gpr w ra a

-- how many bytes, and how they become a word
abbrev pub load_width : LoadOp → ℕ
load_width Lbz = 1
load_width Lhz = 2
load_width Lha = 2
load_width Lwz = 4

abbrev pub load_conversion : LoadOp → Conversion
load_conversion Lbz = Plain
load_conversion Lhz = Plain
load_conversion Lha = SignedHalf
load_conversion Lwz = Plain

abbrev pub converted : Conversion → ℕ → ℕ
converted Plain x = x
converted SignedHalf x = extended 16 (x % 0x10000)
converted ReversedHalf x = reversed_half x
converted ReversedWord x = reversed x

abbrev pub loading : Load → Working → Loading
loading i w = record {
  address = address_of w i.ra i.offset;
  width = load_width i.op;
  rt = i.rt;
  conversion = load_conversion i.op;
  update = updating i.update i.ra;
  reserve = false;
}

abbrev pub indexed_width : LoadIndexedOp → ℕ
indexed_width Lhbrx = 2
indexed_width Lwbrx = 4
indexed_width Lwarx = 4

abbrev pub indexed_conversion : LoadIndexedOp → Conversion
indexed_conversion Lhbrx = ReversedHalf
indexed_conversion Lwbrx = ReversedWord
indexed_conversion Lwarx = Plain

-- lwarx sets the reservation
abbrev pub reserves : LoadIndexedOp → Bool
reserves Lhbrx = false
reserves Lwbrx = false
reserves Lwarx = true

abbrev pub loading_indexed : LoadIndexed → Working → Loading
loading_indexed i w = record {
  address = address_of w i.ra (Index i.rb);
  width = indexed_width i.op;
  rt = i.rt;
  conversion = indexed_conversion i.op;
  update = None;
  reserve = reserves i.op;
}

-- a load's end: the base gets the address, the target the word, and lwarx sets the reservation
unfoldable pub received : Loading → ℕ → Working → Working
received l x w =
    let u = with_gpr (updated l.update l.address w) l.rt (converted l.conversion x) in next (with_reserved u (w.reserved || l.reserve))

abbrev pub store_width : StoreOp → ℕ
store_width Stb = 1
store_width Sth = 2
store_width Stw = 4

-- the low bits of a register's word
abbrev pub store_value : StoreOp → ℕ → ℕ
store_value Stb x = x % 0x100
store_value Sth x = x % 0x10000
store_value Stw x = x

abbrev pub storing : Store → Working → Storing
storing i w = record {
  address = address_of w i.ra i.offset;
  width = store_width i.op;
  value = store_value i.op (gpr_of w i.rs);
  update = updating i.update i.ra;
  conditional = false;
}

abbrev pub indexed_store_width : StoreIndexedOp → ℕ
indexed_store_width Sthbrx = 2
indexed_store_width Stwbrx = 4

abbrev pub indexed_store_value : StoreIndexedOp → ℕ → ℕ
indexed_store_value Sthbrx x = reversed_half x
indexed_store_value Stwbrx x = reversed x

abbrev pub storing_indexed : StoreIndexed → Working → Storing
storing_indexed i w = record {
  address = address_of w i.ra (Index i.rb);
  width = indexed_store_width i.op;
  value = indexed_store_value i.op (gpr_of w i.rs);
  update = None;
  conditional = false;
}

abbrev pub storing_conditional : StoreConditional → Working → Storing
storing_conditional i w = record {
  address = address_of w i.ra (Index i.rb);
  width = 4;
  value = gpr_of w i.rs;
  update = None;
  conditional = true;
}

-- a conditional store's end: condition field 0 is 0, 0, whether it stored, SO; the reservation is gone
unfoldable pub settled : Bool → Working → Working
settled stored w = next (with_reserved (with_answer w stored) false)

-- a store's end
unfoldable pub stored : Storing → Working → Working
stored s w = cond s.conditional (settled true w) (next (updated s.update s.address w))
