-- The loop finds each group along the links that are set before it, so both together are a pass.
use Rattle.merging.proofs.MergingAll.{linked_asks, pass_ends}
use Rattle.merging.proofs.Pass.merge.Goals as goal

pub merge_all-requires : goal.merge_all-requires
merge_all-requires c = linked_asks c.requires c.link.ensures

pub returns : goal.returns
returns c =
    pass_ends c.requires c.link.ensures c.merge_all.ensures
