use Rattle.halves.proofs.two_puts.Goals as goal

pub returns : goal.returns
returns c = c.report-r.ensures.season _ (c.put-y.ensures.ran _ (c.put-x.ensures.ran _ c.new-packer.ensures.ran))
