use Rattle.key_cells.proofs.benches.Workbench.new.Goals as goal

pub returns : goal.returns
returns c = cc
