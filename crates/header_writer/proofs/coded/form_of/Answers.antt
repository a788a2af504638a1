-- The form of a number, test by test as in the definition. Assumes nothing.
use borrow.Author.Tests.{lt-ltb, le-ltb}
use native.Mathlib.Omega.{arith}
use Rattle.rfc9639.specs.Write.{followers, number_bytes}
use Rattle.header_writer.proofs.coded.form_of.Goals as goal

pub returns-in-0-to-127 : goal.returns-in-0-to-127
unfolding number_bytes followers
returns-in-0-to-127 c = let v = c.args.v in (rw (lt-ltb v 0x80 (omega arith)), omega arith)

pub returns-in-128-to-2047 : goal.returns-in-128-to-2047
unfolding number_bytes followers
returns-in-128-to-2047 c = let v = c.args.v in (rw (le-ltb v 0x80 (omega arith), lt-ltb v 0x800 (omega arith)), omega arith)

pub returns-in-2048-to-65535 : goal.returns-in-2048-to-65535
unfolding number_bytes followers
returns-in-2048-to-65535 c = let v = c.args.v in (rw (le-ltb v 0x80 (omega arith), le-ltb v 0x800 (omega arith), lt-ltb v 0x1_0000 (omega arith)), omega arith)

pub returns-in-65536-to-2097151 : goal.returns-in-65536-to-2097151
unfolding number_bytes followers
returns-in-65536-to-2097151 c = let v = c.args.v in (rw (le-ltb v 0x80 (omega arith), le-ltb v 0x800 (omega arith), le-ltb v 0x1_0000 (omega arith), lt-ltb v 0x20_0000 (omega arith)), omega arith)

pub returns-in-2097152-to-67108863 : goal.returns-in-2097152-to-67108863
unfolding number_bytes followers
returns-in-2097152-to-67108863 c = let v = c.args.v in (rw (le-ltb v 0x80 (omega arith), le-ltb v 0x800 (omega arith), le-ltb v 0x1_0000 (omega arith), le-ltb v 0x20_0000 (omega arith), lt-ltb v 0x400_0000 (omega arith)), omega arith)

pub returns-in-67108864-to-2147483647 : goal.returns-in-67108864-to-2147483647
unfolding number_bytes followers
returns-in-67108864-to-2147483647 c = let v = c.args.v in (rw (le-ltb v 0x80 (omega arith), le-ltb v 0x800 (omega arith), le-ltb v 0x1_0000 (omega arith), le-ltb v 0x20_0000 (omega arith), le-ltb v 0x400_0000 (omega arith), lt-ltb v 0x8000_0000 (omega arith)), omega arith)

pub returns-in_default : goal.returns-in_default
unfolding number_bytes followers
returns-in_default c = let v = c.args.v in let h = c.in_default in (rw (le-ltb v 0x80 (omega arith), le-ltb v 0x800 (omega arith), le-ltb v 0x1_0000 (omega arith), le-ltb v 0x20_0000 (omega arith), le-ltb v 0x400_0000 (omega arith), le-ltb v 0x8000_0000 (omega arith)), omega arith)
