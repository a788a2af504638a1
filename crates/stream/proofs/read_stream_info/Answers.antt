-- The contents of STREAMINFO, as the definition reads them. Assumes nothing.
use borrow.Author.Rules.{rules}
use mathlib.Core.Path.{ap, ◌∙◌}
use Rattle.error.specs.Answers.{read_at}
use Rattle.rfc9639.specs.StreamHeader.{sizes, rate_channels_and_bits, md5, stream_info}
use Rattle.stream.proofs.ReadSteps.{exit, number, no_number, goes_on, refused_first, ends}
use Rattle.stream.proofs.read_stream_info.Goals as goal

pub returns-in_err-blocks : goal.returns-in_err-blocks
unfolding stream_info
returns-in_err-blocks c = ap read_at (exit _ _ c.from_residual.ensures.1) ∙ refused_first (sizes 16) _ _ _ _ c.in_err-blocks.ensures

pub returns-in_err-frames : goal.returns-in_err-frames
unfolding stream_info
returns-in_err-frames c =
    goes_on (sizes 16) _ _ _ c.in_ok-blocks.ensures
    (λ _. ap read_at (exit _ _ c.from_residual-in_err-frames.ensures.1) ∙ refused_first (sizes 24) _ _ _ _ c.in_err-frames.ensures)

pub returns-in_err-rate : goal.returns-in_err-rate
unfolding stream_info
returns-in_err-rate c =
    goes_on (sizes 16) _ _ _ c.in_ok-blocks.ensures
    (λ _. goes_on (sizes 24) _ _ _ c.in_ok-frames.ensures
    (λ _. ap read_at (exit _ _ c.from_residual-in_err-rate.ensures.1) ∙ refused_first rate_channels_and_bits _ _ _ _ c.in_err-rate.ensures))

pub returns-in_err-samples : goal.returns-in_err-samples
unfolding stream_info
returns-in_err-samples c =
    goes_on (sizes 16) _ _ _ c.in_ok-blocks.ensures
    (λ _. goes_on (sizes 24) _ _ _ c.in_ok-frames.ensures
    (λ _. goes_on rate_channels_and_bits _ _ _ c.in_ok-rate.ensures
    (λ _. ap read_at (exit _ _ c.from_residual-in_err-samples.ensures.1) ∙ no_number 36 _ _ _ (search rules) _ c.in_err-samples.ensures)))

pub returns-in_err-md5 : goal.returns-in_err-md5
unfolding stream_info
returns-in_err-md5 c =
    goes_on (sizes 16) _ _ _ c.in_ok-blocks.ensures
    (λ _. goes_on (sizes 24) _ _ _ c.in_ok-frames.ensures
    (λ _. goes_on rate_channels_and_bits _ _ _ c.in_ok-rate.ensures
    (λ _. number 36 _ _ _ (search rules) c.in_ok-samples.ensures
    (λ _. ap read_at (exit _ _ c.from_residual-in_err-md5.ensures.1) ∙ refused_first md5 _ _ _ _ c.in_err-md5.ensures))))

pub returns : goal.returns
unfolding stream_info
returns c =
    goes_on (sizes 16) _ _ _ c.in_ok-blocks.ensures
    (λ _. goes_on (sizes 24) _ _ _ c.in_ok-frames.ensures
    (λ _. goes_on rate_channels_and_bits _ _ _ c.in_ok-rate.ensures
    (λ _. number 36 _ _ _ (search rules) c.in_ok-samples.ensures (λ _. goes_on md5 _ _ _ c.in_ok-md5.ensures (λ i. ends _ _ _ i)))))
