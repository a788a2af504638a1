-- What a pen writes into some bytes, bit by bit. Where the bytes end, it stops: the bits that are left are dropped.
use Rattle.std.specs.Prelude.{ℕ, ◌+◌, ◌*◌, ◌^◌, ◌≡◌, Bool, ◌&&◌, List, [], ◌∷◌, ltb, length, set, if◌then◌else◌}
use Rattle.std.specs.Borrow.{MutBor}
use Rattle.bit_writer.specs.declared.Pen.{Pen}
use Rattle.bit_writer.specs.declared.BitWriter.{BitWriter}

-- the pen, and the bytes that it writes into
pub record State : Type 0 where
  pub pen : Pen
  pub bytes : List ℕ

-- One more bit: the eighth of a byte writes the byte.
unfoldable pub ink_bit : ℕ → Pen → List ℕ → State
ink_bit b p s =
    if ltb p.byte (length s)
    then if ltb p.held 7
    then record { pen = record { byte = p.byte; held = p.held + 1; bits = p.bits * 2 + b }; bytes = s }
    else record { pen = record { byte = p.byte + 1; held = 0; bits = 0 }; bytes = set s p.byte (p.bits * 2 + b) }
    else record { pen = p; bytes = s }

unfoldable pub ink : List ℕ → Pen → List ℕ → State
ink [] p s = record { pen = p; bytes = s }
ink (b ∷ bs) p s = ink bs (ink_bit b p s).pen (ink_bit b p s).bytes

-- it holds at most seven bits, and no others
unfoldable pub is_pen : Pen → Bool
is_pen p = ltb p.held 8 && ltb p.bits (2 ^ p.held)

-- What is not a pen writes nothing.
unfoldable pub inked : List ℕ → Pen → List ℕ → State
inked bs p s = if is_pen p then ink bs p s else record { pen = p; bytes = s }

-- a pen at the start of the bytes
unfoldable pub fresh : Pen
fresh = record { byte = 0; held = 0; bits = 0 }

-- where the pen stands after some bits, and what the bytes are then
abbrev pub Writes : List ℕ → Pen → List ℕ → Pen → List ℕ → Type 0
Writes bs p s after left = ◌≡◌ {A = State} (record { pen = after; bytes = left }) (inked bs p s)

-- the output is lent as before
pub record SameOutput (before after : MutBor (List ℕ)) : Type 0 where
  pub name : after.ghost_name ≡ before.ghost_name
  pub place : after.ref_ptr ≡ before.ref_ptr

-- What each function that writes promises: the same output, with some bits more.
pub record Appends (bs : List ℕ) (w after : BitWriter) : Type 0 where
  pub same : SameOutput w.out after.out
  pub written : Writes bs w.pen w.out.now after.pen after.out.now
