use Rattle.std.proofs.Common.{◌≡◌, ◌≤◌, ◌+◌, ◌*◌, ◌++◌, length}
use Rattle.record_bodies.specs.Directory.{held_count}
use Rattle.record_bodies.specs.Entries.{row_directory}
use Rattle.cca_machine.specs.Listing.{with_commas}
use Rattle.request_verbs.proofs.ListedLabels.{so_far, are_none}
use Rattle.request_verbs.proofs.verbs.csnbkrl.put_beginning.Given as goal

abbrev pub invariant-loop-index : goal.invariant-loop-index
invariant-loop-index l = record {
  all : l.index-end ≡ held_count (row_directory l.records);
  few : l.index-end ≤ 1024;
  within : l.index ≤ l.index-end;
  first : l.first ≡ are_none (so_far l.prefix (row_directory l.records) l.index);
  bytes : l.reply ≡ l.fn.reply ++ with_commas (so_far l.prefix (row_directory l.records) l.index);
  size : length l.reply ≤ length l.fn.reply + l.index * 65;
}
