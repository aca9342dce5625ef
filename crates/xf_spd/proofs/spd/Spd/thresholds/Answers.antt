use Rattle.std.proofs.Common.{ℕ, Some, ap, ◌∙◌}
use Rattle.xf_listing.proofs.Reading.{hthresh4_is, hthresh6_is}
use Rattle.xf_spd.proofs.spd.Spd.thresholds.Goals as goal

pub returns-clause-v4 : goal.returns-clause-v4
returns-clause-v4 g c = λ image s es h stands.
    c.threshold_words.ensures.v4 image h ∙ ap (λ (x : ℕ × ℕ). Some x) (hthresh4_is c.args.self.now.area image s es stands.list)

pub returns-clause-v6 : goal.returns-clause-v6
returns-clause-v6 g c = λ image s es h stands.
    c.threshold_words.ensures.v6 image h ∙ ap (λ (x : ℕ × ℕ). Some x) (hthresh6_is c.args.self.now.area image s es stands.list)
