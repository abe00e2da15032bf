-- `questions::items::Items::find_channel` meets its contract.
-- Assumes nothing.
use Prim.Native.Nat.{ℕ}
use mathlib.Core.Path.{sym, subst}
use Rattle.questions.specs.Sought.{ChannelSought, SamplesSought}
use Rattle.questions.proofs.SamplesAnswers.{no_event, sought}
use Rattle.questions.proofs.items.Items.find_channel.Goals as goal

pub returns-in_err-at : goal.returns-in_err-at
returns-in_err-at c =
    let a = c.args in
    subst (SamplesSought a.self.bytes.now a.e a.wanted.chip a.wanted.channel) (sym c.from_residual.ensures) (no_event _ _ _ _ c.in_err-at.ensures)

pub returns : goal.returns
returns c =
    let a = c.args in
    sought a.self.bytes.now a.e a.wanted.chip a.wanted.channel _ c.in_ok-at.ensures c.seek_channel.result
    (subst (λ (from : ℕ). ChannelSought a.self.bytes.now from a.wanted.chip a.wanted.channel c.seek_channel.result) c.inside_at.ensures c.seek_channel.ensures)
