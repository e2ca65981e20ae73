-- A disk in memory as a medium: the moments are the calls that it noted.
use Rattle.std.specs.Prelude.{ℕ, ◌≤◌, List, length, take, Some}
use Rattle.device_cells.specs.Medium.{Medium}
use Rattle.slot_disk.specs.declared.call.Call.{Call}
use Rattle.slot_disk.specs.DiskState.{DiskState}
use Rattle.slot_disk.specs.Stages.{stage, IsTorn}
use Rattle.slot_disk.specs.StageLaws.{all_made, sized_log, torn_log, now_log, only_log}

-- a stop after one of the calls from number t on leaves this
pub record LeftSince (first : List ℕ) (calls : List Call) (t : ℕ) (image : List ℕ) : Type 0 where
  pub noted : ℕ
  pub from : t ≤ noted
  pub made : noted ≤ length calls
  pub torn : IsTorn (stage first (take noted calls)) image

abbrev pub log_medium : List ℕ → List Call → Medium
log_medium first calls = record {
  size = length first;
  content = Some (stage first calls).content;
  images = IsTorn (stage first calls);
  moment = length calls;
  since = LeftSince first calls;
  sized = sized_log first calls;
  is_image = torn_log first calls;
  counts_now = λ t c le torn. record {
    noted = length calls;
    from = le;
    made = all_made (length calls);
    torn = now_log first calls c torn;
  };
  only_now = λ c left. only_log first calls left.noted c left.from left.made left.torn;
}

abbrev pub medium_of : DiskState → Medium
medium_of d = log_medium d.first d.calls
