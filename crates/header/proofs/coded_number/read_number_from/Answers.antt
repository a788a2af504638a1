-- The first bytes that no other bytes follow: the number itself, or a refusal. Assumes nothing.
use borrow.Author.Tests.{lt-ltb, le-ltb}
use native.Mathlib.Omega.{arith}
use mathlib.Core.Path.{sym}
use Rattle.reading.proofs.ByteRuns.{inside_in, run_at-done, run_at-stop}
use Rattle.rfc9639.specs.Number.{number_from}
use Rattle.header.proofs.coded_number.read_number_from.Goals as goal

pub returns-in-0-to-127 : goal.returns-in-0-to-127
unfolding number_from
returns-in-0-to-127 c = rw (lt-ltb c.args.b 0x80 (omega arith)) (sym (run_at-done _ (inside_in _ _ c.requires.1)))

pub returns-in-128-to-191 : goal.returns-in-128-to-191
unfolding number_from
returns-in-128-to-191 c = rw (le-ltb c.args.b 0x80 (omega arith), lt-ltb c.args.b 0xc0 (omega arith)) (sym (run_at-stop 5 (inside_in _ _ c.requires.1)))

pub returns-in_default : goal.returns-in_default
unfolding number_from
returns-in_default c =
    let b = c.args.b in
    rw (le-ltb b 0x80 (omega arith), le-ltb b 0xc0 (omega arith), le-ltb b 0xe0 (omega arith), le-ltb b 0xf0 (omega arith), le-ltb b 0xf8 (omega arith), le-ltb b 0xfc (omega arith), le-ltb b 0xfe (omega arith), le-ltb b 0xff (omega arith))
    (sym (run_at-stop 5 (inside_in _ _ c.requires.1)))
