-- What a move sent rests on what was read, however it ended.
use Rattle.std.proofs.Common.{◌≡◌, ◌⊎◌, ℕ, List, Option, None, Some, Result, Ok, Err, inl, inr, refl, sym, ap, subst, ◌∙◌}
use Rattle.std.specs.Prelude.{option_map}
use Rattle.cca_roles.specs.declared.roles.Role.{Role}
use Rattle.key_cells.specs.Bench.{Bench}
use Rattle.key_cells.specs.Lease.{bench_of}
use Rattle.key_cells.specs.declared.leases.Lease.{Lease}
use Rattle.key_records.specs.Changes.{KeepsAllButBody}
use Rattle.record_bodies.specs.Directory.{held_count}
use Rattle.record_bodies.specs.Entries.{row_directory}
use Rattle.record_bodies.specs.declared.rows.Row.{Row}
use Rattle.key_tokens.specs.Denotes.{ClearKey, Denoted}
use Rattle.key_tokens.specs.declared.key_token.Age.{Age}
use Rattle.line_service.specs.declared.stops.Stop.{Stop}
use Rattle.line_service.specs.declared.stops.Stop.TheVariants as stop
use Rattle.master_registers.specs.Masters.{Masters}
use Rattle.verb_rules.specs.Keys.{keys_of, opened}
use Rattle.verb_rules.specs.Rules.{rule_number}
use Rattle.verb_rules.specs.declared.judging.Judged.{Judged}
use Rattle.verb_rules.specs.declared.rules.Rule.{Rule}
use Rattle.store_unload.specs.Judging.{JudgedAsRead, RefusedAsRead, TransportAsRead}
use Rattle.store_unload.specs.Writing.{GotParts, GotPartsTo}
use Rattle.command_words.specs.declared.moves.Move.{Move}
use Rattle.store_unload.specs.Statuses.{status_of_lem}
use Rattle.store_unload.specs.Unloading.{MoveRests, MoveUntold}
use Rattle.store_unload.specs.declared.status.Status.{Status}
use Rattle.store_unload.specs.declared.status.Status.TheVariants as status
use Rattle.store_unload.specs.declared.unloading.MoveStatus.{MoveStatus}
use Rattle.store_unload.specs.declared.unloading.MoveStatus.TheVariants.{Run, Refused}

-- the key of a judged operand, by the register that it is under
key_opened : (bench : Bench) (judged : Judged) (age : Option Age) (key : Denoted)
    → option_map (λ (age : Age). let x : Denoted = record { clear = opened bench judged; age = age } in x) age ≡ Some key
    → opened bench judged ≡ key.clear
key_opened bench judged None key is = absurd (cc is)
key_opened bench judged (Some age) key is =
    let x : Denoted = record { clear = opened bench judged; age = age } in
    let same : x ≡ key = cc is in
    ap (λ (d : Denoted). d.clear) same

-- a clear key is that of the transport label, by what was read of its record
pub record IsReadKey (m : Masters) (roles : List (Option Role)) (w : Move) (rows : List (Option Row)) (body : List ℕ) (clear : ClearKey) : Type 0 where
  pub key : Denoted
  pub is : clear ≡ key.clear
  pub read : TransportAsRead m roles w rows body key

module _ (m : Masters) (roles : List (Option Role)) (w : Move) (rows : List (Option Row)) (body : List ℕ) where
  -- the operand that was judged opens to it, also once the body of the bench has changed
  pub read_key : (old new : Lease) → KeepsAllButBody old new → (r : Result Judged Rule) (judged : Judged) → r ≡ Ok judged
      → JudgedAsRead m roles w rows (bench_of old) body r → IsReadKey m roles w rows body (opened (bench_of new) judged)
  read_key old new rest r judged is reads =
      let here : JudgedAsRead m roles w rows (bench_of old) body (Ok judged) = subst (JudgedAsRead m roles w rows (bench_of old) body) is reads in
      record {
        key = here.0;
        is = ap (λ (b : Bench). opened b judged) (ap bench_of rest) ∙ key_opened (bench_of old) judged judged.age here.0 here.1;
        read = here.2;
      }

  -- the rule that was judged refuses the move
  pub read_rule : (bench : Bench) (r : Result Judged Rule) (broken : Rule) (number rule : ℕ) → r ≡ Err broken → number ≡ rule_number broken
      → JudgedAsRead m roles w rows bench body r → Refused number ≡ Refused rule → RefusedAsRead m roles w rows body rule
  read_rule bench r broken number rule is numbered reads outcome =
      let here : JudgedAsRead m roles w rows bench body (Err broken) = subst (JudgedAsRead m roles w rows bench body) is reads in
      let told : number ≡ rule = cc outcome in
      subst (RefusedAsRead m roles w rows body) (sym numbered ∙ told) here

  module _ (clear : ClearKey) (key : IsReadKey m roles w rows body clear) (f0 f1 r0 r1 : Option (List ℕ)) where
    -- all labels were told
    pub rests_done : GotParts (keys_of m) w rows clear.key (held_count (row_directory rows)) f0 f1 r0 r1 → MoveRests m roles w rows (Run status.Done) f0 f1 r0 r1
    rests_done got = record {
      body = body;
      transport = key.key;
      read = key.read;
      done = λ is. subst (λ (k : ClearKey). GotParts (keys_of m) w rows k.key (held_count (row_directory rows)) f0 f1 r0 r1) key.is got;
      cut = λ never. absurd (never refl);
    }

    -- labels were told up to one
    pub rests_cut : (outcome : MoveStatus) → (outcome ≡ Run status.Done → ⊥) → GotPartsTo (keys_of m) w rows clear.key f0 f1 r0 r1
        → MoveRests m roles w rows outcome f0 f1 r0 r1
    rests_cut outcome undone got = record {
      body = body;
      transport = key.key;
      read = key.read;
      done = λ is. absurd (undone is);
      cut = λ never. subst (λ (k : ClearKey). GotPartsTo (keys_of m) w rows k.key f0 f1 r0 r1) key.is got;
    }

-- nothing was told, and the move isn't done
pub none_told : {K P : Type 0} (outcome : MoveStatus) → (outcome ≡ Run status.Done → ⊥) → (file : K) (report : P)
    → (outcome ≡ Run status.Done) ⊎ (MoveUntold file file report report → ⊥) → ⊥
none_told outcome undone file report (inl is) = undone is
none_told outcome undone file report (inr told) = told (record { no_file = refl; no_report = refl })

-- ---- what isn't done

stop_undone : (why : Stop) → Run (status_of_lem (Err why)) ≡ Run status.Done → ⊥
stop_undone stop.ReadFault is = cc
stop_undone stop.WriteFault is = cc
stop_undone stop.EntropyFault is = cc
stop_undone stop.ModuleFault is = cc
stop_undone stop.StoreFault is = cc
stop_undone (stop.Damaged device cell) is = cc
stop_undone stop.InputLimit is = cc

-- a disk wasn't opened, or the store wasn't read
pub unread : (why : Stop) (told : Status) → told ≡ status_of_lem (Err why) → Run told ≡ Run status.Done → ⊥
unread why told is done = stop_undone why (ap Run (sym is) ∙ done)
