use Rattle.std.proofs.Common.{◌≡◌, ◌≤◌, length}
use Rattle.record_bodies.specs.Directory.{held_count}
use Rattle.record_bodies.specs.Entries.{row_directory}
use Rattle.request_verbs.proofs.ListedLabels.{so_far}
use Rattle.request_verbs.proofs.verbs.csnbkrl.count_beginning.Given as goal

abbrev pub invariant-loop-index : goal.invariant-loop-index
invariant-loop-index l = record {
  all : l.index-end ≡ held_count (row_directory l.records);
  few : l.index-end ≤ 1024;
  within : l.index ≤ l.index-end;
  count : l.count ≡ length (so_far l.prefix (row_directory l.records) l.index);
  most : l.count ≤ l.index;
}
