use Rattle.key_cells.proofs.benches.Workbench.wipe.Goals as goal

pub returns : goal.returns
returns c = cc
