use Rattle.std.proofs.Common.{◌∙◌}
use Rattle.rayon.proofs.ListFacts.{IfOk-then}
use Rattle.rayon.specs.Numbers.{nat_range}
use Rattle.pct_sample.specs.Parts.{IsPart}
use Rattle.pct_sample.proofs.LongerTallies.{are_parts}
use Rattle.pct_sample.proofs.OkRuns.{all_collected}
use Rattle.pct_sample.proofs.sampling.part_tallies.Goals as goal

pub returns : goal.returns
returns g c =
    let script = c.args.script.now in
    let ends = c.into_par_iter.ensures in
    let h = c.in_ok-collect.ensures in
    let chain = rw (c.map.ensures.base, c.map.ensures.f, c.with_min_len.ensures.base) at h.1 in
    let places = chain.1 ∙ (λ i. nat_range (ends.0 i) c.into_par_iter.result.end) in
    let each = all_collected _ (λ v. v.items) (IsPart script c.args.seeds c.args.size) c.in_ok-collect.field-0 _ h.0 (rw places at chain.2) h.2 in
    IfOk-then c.in_ok-collect.field-0 _ _ each (λ parts x. are_parts script c.args.seeds c.args.size c.into_par_iter.result.end parts.items c.requires.some (rw c.count.ensures at ends.1) x)
