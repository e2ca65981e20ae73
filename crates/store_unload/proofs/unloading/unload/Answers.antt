-- The words ask for one move.
use Rattle.std.proofs.Common.{refl, inl, inr}
use Rattle.store_unload.proofs.CalledLemmas.{not_usage, opens_called, opens_ends, opens_usage}
use Rattle.store_unload.proofs.unloading.unload.Goals as goal

-- ---- the disks were opened

pub returns-in-Ok-clause-usage : goal.returns-in-Ok-clause-usage
returns-in-Ok-clause-usage g c =
    opens_usage c.args.words.now c.move_store.result c.move_store.ensures.statuses (c.in-Some.how, c.in-Some.ensures.found)

pub returns-in-Ok-clause-statuses : goal.returns-in-Ok-clause-statuses
returns-in-Ok-clause-statuses g c = opens_ends c.move_store.result c.move_store.ensures.statuses

pub returns-in-Ok-clause-uncalled : goal.returns-in-Ok-clause-uncalled
returns-in-Ok-clause-uncalled g c = λ none. absurd (opens_called c.move_store.result c.move_store.ensures.statuses none)

pub returns-in-Ok-clause-ends : goal.returns-in-Ok-clause-ends
returns-in-Ok-clause-ends g c = λ called. (c.in-Some.how, c.in-Some.ensures.found, c.move_store.ensures.ends)

-- ---- there was no memory

pub returns-in-Err-clause-usage : goal.returns-in-Err-clause-usage
returns-in-Err-clause-usage g c = (λ is. absurd (not_usage is), λ never. absurd (never (c.in-Some.how, c.in-Some.ensures.found)))

pub returns-in-Err-clause-uncalled : goal.returns-in-Err-clause-uncalled
returns-in-Err-clause-uncalled g c = λ none. record { no_file = refl; no_report = refl; no_module = refl; no_store = refl }

pub returns-in-Err-clause-ends : goal.returns-in-Err-clause-ends
returns-in-Err-clause-ends g c = λ called. absurd (called (inr refl))

-- ---- the words ask for none

pub returns-in_default-clause-uncalled : goal.returns-in_default-clause-uncalled
returns-in_default-clause-uncalled g c = λ none. record { no_file = refl; no_report = refl; no_module = refl; no_store = refl }

pub returns-in_default-clause-ends : goal.returns-in_default-clause-ends
returns-in_default-clause-ends g c = λ called. absurd (called (inl refl))

-- ---- how it ends

pub returns-in-Err-clause-statuses : goal.returns-in-Err-clause-statuses
returns-in-Err-clause-statuses g c = tt

pub returns-in_default-clause-statuses : goal.returns-in_default-clause-statuses
returns-in_default-clause-statuses g c = tt

pub returns-in_default-clause-bench : goal.returns-in_default-clause-bench
returns-in_default-clause-bench g c = c.wipe.ensures

pub returns-in-Err-clause-bench : goal.returns-in-Err-clause-bench
returns-in-Err-clause-bench g c = c.wipe.ensures

pub move_store-requires : goal.move_store-requires
move_store-requires g c = c.requires
