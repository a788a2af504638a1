-- The channels, then the footer: zeros if one is refused, else the channels as they were recorded. Assumes nothing.
use mathlib.Core.Path.{ap, sym, ◌∙◌}
use borrow.Author.Rules.{rules}
use lib.IntN.{pos}
use lib.ListN.{length, replicate}
use Rattle.rfc9639.specs.Header.{sample_count}
use Rattle.frame.proofs.FrameBody.{body-done, body-stops, Then}
use Rattle.frame.proofs.decode_body.Goals as goal

pub join-requires : goal.join-requires
unfolding sample_count
join-requires c = c.decode_channels.auto.out ∙ c.requires.2

pub returns-then-is_ok : goal.returns-then-is_ok
returns-then-is_ok c =
    let f : Then c.args.s.now c.decode_channels.result c.and_then-decoded.result = search rules in
    body-done c.args.h c.args.s.now c.args.at (length c.args.out.now) c.decode_channels.new.out c.decode_channels.result c.and_then-decoded.result c.decode_channels.ensures f
    (sym c.is_ok.ensures.value ∙ c.if-is_ok.true) c.join.ensures

pub returns-else-is_ok : goal.returns-else-is_ok
returns-else-is_ok c =
    let f : Then c.args.s.now c.decode_channels.result c.and_then-decoded.result = search rules in
    body-stops c.args.h c.args.s.now c.args.at (length c.args.out.now) c.decode_channels.new.out c.decode_channels.result c.and_then-decoded.result c.decode_channels.ensures f
    (sym c.is_ok.ensures.value ∙ c.if-is_ok.false) (c.fill.ensures ∙ ap (λ n. replicate n (pos 0)) c.decode_channels.auto.out)
