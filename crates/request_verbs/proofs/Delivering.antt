-- A key that is delivered, and a key that goes into a record.
use Rattle.std.proofs.Common.{◌≡◌, ◌≤◌, ◌∙◌, ℕ, true, false, List, [], length, Option, None, Some, refl, sym, ap, subst, arith}
use Rattle.std.specs.Prelude.{Bool, IsSome, IsTrue, is_some, ◌||◌}
use Rattle.key_cells.specs.Bench.{Bench}
use Rattle.cca_roles.specs.NameLaws.{label_short}
use Rattle.record_bodies.specs.Directory.{label_at}
use Rattle.record_bodies.specs.Entries.{row_directory}
use Rattle.record_bodies.specs.declared.rows.Row.{Row}
use Rattle.key_tokens.specs.Denotes.{Denoted, denoted}
use Rattle.master_registers.specs.Loaded.{IsLoaded, Loaded, masters_in}
use Rattle.master_registers.specs.Masters.{Masters}
use Rattle.master_registers.specs.declared.registers.Registers.{Registers}
use Rattle.line_service.specs.Replies.{ok_text, written}
use Rattle.verb_rules.specs.Keys.{keys_of}
use Rattle.verb_script.specs.Grammar.{Request}
use Rattle.cca_machine.specs.Act.{Effect}
use Rattle.cca_machine.specs.State.{State}
use Rattle.cca_machine.specs.Verdict.{Refusal}
use Rattle.cca_machine.specs.Deciding.{GoesThrough, IsDelivered, IsDelivery, IsHeldAt, IsLeft, IsReady, WritesStore}
use Rattle.request_verbs.specs.Drawing.{IsHeldPlace}
use Rattle.cca_machine.specs.Granted.{HasPlace, HasTarget, IsPlaceFor}
use Rattle.cca_machine.specs.declared.effects.Effect.{Effect as CodeEffect}
use Rattle.cca_machine.specs.declared.effects.Effect.TheVariants as code
use Rattle.cca_machine.specs.declared.granted.Grant.{Grant}

-- a label that a key goes to is short
pub short_named : (named : Option (List ℕ)) (label : List ℕ) (place : Option ℕ) → named ≡ Some label → IsPlaceFor named place → length label ≤ 64
short_named None label place is target = cc is
short_named (Some l) label place is target = let same : l ≡ label = cc in omega (arith, label_short l target.0, ap length same)

pub some_of : {A : Type 0} (o : Option A) (x : A) → o ≡ Some x → IsSome o
some_of o x is = subst IsSome (sym is) refl

-- the memory knows the label at the place of a grant
pub held_at : (rows : List (Option Row)) (label : List ℕ) (grant : Grant) (place : ℕ) → HasPlace rows label grant → grant.place ≡ Some place → IsHeldAt rows place
held_at rows label grant place has is =
    let same : has.place ≡ place = cc (has.is, is) in
    subst (IsHeldAt rows) same (some_of (label_at (row_directory rows) has.place) label has.held)

-- the memory knows the label at the place of a target
pub target_place : (rows : List (Option Row)) (named : Option (List ℕ)) (grant : Grant) → HasTarget rows named grant → IsHeldPlace rows grant.place
target_place rows None grant target = subst (IsHeldPlace rows) (sym target) tt
target_place rows (Some label) grant target = subst (IsHeldPlace rows) (sym target.is) (some_of (label_at (row_directory rows) target.place) label target.held)

module _ (rows : List (Option Row)) (place : Option ℕ) (token : List ℕ) (held_place : IsHeldPlace rows place) where
  -- what is certain of a delivery in every state
  pub delivery_ready : (held : Registers) (bench : Bench) (e : CodeEffect) (reply : List ℕ) → IsDelivery token place e
      → IsSome (denoted (keys_of (masters_in held bench)) token) → length reply ≤ 69000 → IsReady held bench rows e reply
  delivery_ready held bench (code.Refused r) reply delivery key size = absurd delivery
  delivery_ready held bench code.Shown reply delivery key size = size
  delivery_ready held bench (code.Change action) reply delivery key size = absurd delivery
  delivery_ready held bench (code.DefineRole name points) reply delivery key size = absurd delivery
  delivery_ready held bench (code.RemoveRole name) reply delivery key size = absurd delivery
  delivery_ready held bench (code.Create label) reply delivery key size = absurd delivery
  delivery_ready held bench (code.Write other bytes) reply delivery key size = (
    subst (IsHeldPlace rows) delivery.0 held_place,
    subst (λ b. IsSome (denoted (keys_of (masters_in held bench)) b)) (sym delivery.1) key,
    size,
  )
  delivery_ready held bench (code.Delete other) reply delivery key size = absurd delivery
  delivery_ready held bench (code.Reencipher a) reply delivery key size = absurd delivery

pub either_left : (a b : Bool) → IsTrue a → IsTrue (a || b)
either_left true b is = refl
either_left false b is = cc is

pub either_right : (a b : Bool) → IsTrue b → IsTrue (a || b)
either_right true b is = refl
either_right false b is = is

-- a reply of no field
pub no_fields_short : length (written []) ≤ 69000
unfolding ok_text
no_fields_short = omega arith

-- ---- a key that is delivered under the current master key

-- it goes into a record only where a label is named
pub delivery_named : (named : Option (List ℕ)) (place : Option ℕ) (token : List ℕ) (e : CodeEffect)
    → IsPlaceFor named place → IsDelivery token place e → WritesStore e → IsTrue (is_some named)
delivery_named named place token (code.Refused r) target delivery writes = absurd writes
delivery_named named place token code.Shown target delivery writes = absurd writes
delivery_named named place token (code.Change action) target delivery writes = absurd writes
delivery_named named place token (code.DefineRole name points) target delivery writes = absurd writes
delivery_named named place token (code.RemoveRole name) target delivery writes = absurd writes
delivery_named named place token (code.Create label) target delivery writes = absurd delivery
delivery_named None place token (code.Write other bytes) target delivery writes =
    let no : None ≡ Some other = sym target ∙ delivery.0 in
    cc no
delivery_named (Some label) place token (code.Write other bytes) target delivery writes = refl
delivery_named named place token (code.Delete other) target delivery writes = absurd delivery
delivery_named named place token (code.Reencipher a) target delivery writes = absurd delivery

pub delivery_single : (place : Option ℕ) (token : List ℕ) (e : CodeEffect) → IsDelivery token place e → GoesThrough e → ⊥
delivery_single place token (code.Refused r) delivery through = absurd through
delivery_single place token code.Shown delivery through = absurd through
delivery_single place token (code.Change action) delivery through = absurd through
delivery_single place token (code.DefineRole name points) delivery through = absurd through
delivery_single place token (code.RemoveRole name) delivery through = absurd through
delivery_single place token (code.Create label) delivery through = absurd through
delivery_single place token (code.Write other bytes) delivery through = absurd through
delivery_single place token (code.Delete other) delivery through = absurd through
delivery_single place token (code.Reencipher a) delivery through = absurd delivery

-- its token stands for a key under the master keys of a bench, and of each other one that has the same
pub stands_after : (new : Bench) (token : List ℕ) {held : Registers} {old : Bench} {key : Denoted}
    → masters_in held new ≡ masters_in held old → IsLoaded held old
    → ((m : Masters) → Loaded m held old → denoted (keys_of m) token ≡ Some key)
    → IsSome (denoted (keys_of (masters_in held new)) token)
stands_after new token {held} {old} {key} same loaded stands =
    subst (λ (m : Masters). IsSome (denoted (keys_of m) token)) (sym same) (some_of _ key (stands (masters_in held old) loaded))

-- a key that is delivered is what a verb left to be done
pub delivered_left : (s : State) (bench : Bench) (request : Request) (v : Option Refusal) (made : Effect) (e : CodeEffect) (reply : List ℕ)
    → v ≡ None → IsDelivered s made e reply → IsLeft s bench request v made e reply
delivered_left s bench request v made (code.Refused r) reply none delivered = absurd delivered
delivered_left s bench request v made code.Shown reply none delivered = (none, delivered)
delivered_left s bench request v made (code.Change action) reply none delivered = absurd delivered
delivered_left s bench request v made (code.DefineRole name points) reply none delivered = absurd delivered
delivered_left s bench request v made (code.RemoveRole name) reply none delivered = absurd delivered
delivered_left s bench request v made (code.Create label) reply none delivered = absurd delivered
delivered_left s bench request v made (code.Write place token) reply none delivered = (none, delivered)
delivered_left s bench request v made (code.Delete place) reply none delivered = absurd delivered
delivered_left s bench request v made (code.Reencipher a) reply none delivered = absurd delivered
