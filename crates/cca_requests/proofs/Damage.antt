-- What a cell that turned out damaged spares.
use Rattle.std.proofs.Common.{◌≡◌, ℕ, false, List, Option, Result, Err, refl, sym, subst}
use Rattle.std.specs.Prelude.{IfErr, IsTrue}
use Rattle.device_cells.specs.Medium.{Keeps, Medium}
use Rattle.device_cells.proofs.Media.{keeps_still, keeps_then}
use Rattle.key_cells.specs.declared.leases.Lease.{Lease}
use Rattle.record_bodies.specs.declared.rows.Row.{Row}
use Rattle.line_service.specs.declared.stops.Device.{Device}
use Rattle.line_service.specs.declared.stops.Stop.{Stop}
use Rattle.line_service.specs.declared.stops.Stop.TheVariants.{Damaged, EntropyFault, ModuleFault}
use Rattle.verb_script.specs.Grammar.{Request}
use Rattle.verb_script.specs.declared.rows.RequestName.{RequestName}
use Rattle.verb_script.specs.declared.rows.RequestName.TheVariants.{Csnbrng, CsnbkgnOp, CsnbkgnOut, CsnbkgnPair}
use Rattle.cca_machine.specs.Draws.{draw_of, draws_random, is_drawing}
use Rattle.cca_machine.specs.Operands.{is_reencipher}
use Rattle.cca_machine.specs.Deciding.{GoesThrough}
use Rattle.cca_machine.specs.declared.effects.Effect.{Effect}
use Rattle.cca_machine.proofs.Settling.{through_writes}
use Rattle.line_service.specs.Devices.{DamageSpares}
use Rattle.cca_requests.specs.Serving.{IsLoadedStop, KeepsToEffect}
use Rattle.cca_requests.proofs.Leaving.{no_damage}

-- ---- answers that tell no damage

abbrev error : Stop → Result (Unit {0}) Stop
error stop = Err stop

pub module_sound : (device : Device) (cell : ℕ) → error ModuleFault ≡ error (Damaged device cell) → ⊥
module_sound device cell is = cc is

pub random_sound : (stop : Stop) → stop ≡ EntropyFault → (device : Device) (cell : ℕ) → error stop ≡ error (Damaged device cell) → ⊥
random_sound stop of_random device cell is = let no : error EntropyFault ≡ error (Damaged device cell) = subst (λ (x : Stop). error x ≡ error (Damaged device cell)) of_random is in cc no

-- ---- a request that goes through the store draws nothing

undrawing : (name : RequestName) (request : Request) → IsTrue (is_reencipher name) → is_drawing (draw_of name request) ≡ false
undrawing Csnbrng request is = cc is
undrawing CsnbkgnOp request is = cc is
undrawing CsnbkgnPair request is = cc is
undrawing CsnbkgnOut request is = cc is
undrawing _ request is = refl

-- ---- a call

module _ {D E : Type 0} {result : Result (Unit {0}) Stop} {entropy now : E} where
  -- the registers are loaded, and an effect is carried out
  pub effect_spares : {M : Type 0} (medium : M → Medium) {m0 m1 : M} {store later : D} {e : Effect} {rows next : List (Option Row)} {lease still : Lease} (request : Request)
      → KeepsToEffect e result rows next lease still m0 m1 store later → (GoesThrough e → IsTrue (is_reencipher request.name))
      → (draws_random request ≡ false → now ≡ entropy) → DamageSpares result (medium m0) (medium m1) store later entropy now
  effect_spares {M} medium {m0} {m1} {store} {later} {e} request keeps through undrawn = record {
    undrawn = λ device cell is. undrawn (undrawing request.name request (through (keeps.through device cell is)));
    module_kept = λ device cell is.
        subst (λ (m : M). Keeps (medium m0) (medium m)) (sym (keeps.alone (through_writes e (keeps.through device cell is)))) (keeps_still (medium m0));
    store_uncalled = λ cell is. absurd (no_damage result cell keeps.stops is);
  }

  -- the store was read before
  pub spares_after_store : {m0 m1 : Medium} {store before later : D} → IfErr result IsLoadedStop
      → DamageSpares result m0 m1 before later entropy now → DamageSpares result m0 m1 store later entropy now
  spares_after_store stops spares = record {
    undrawn = spares.undrawn;
    module_kept = spares.module_kept;
    store_uncalled = λ cell is. absurd (no_damage result cell stops is);
  }

  -- the module was read before
  pub spares_after_module : {m0 m1 m2 : Medium} {store later : D} → Keeps m0 m1
      → DamageSpares result m1 m2 store later entropy now → DamageSpares result m0 m2 store later entropy now
  spares_after_module {m0} {m1} {m2} keeps spares = record {
    undrawn = spares.undrawn;
    module_kept = λ device cell is. keeps_then m0 m1 m2 keeps (spares.module_kept device cell is);
    store_uncalled = spares.store_uncalled;
  }

-- the store alone was read
pub read_spares : {D E : Type 0} {result : Result (Unit {0}) Stop} {m : Medium} {store later : D} {entropy : E} → IfErr result IsLoadedStop
    → DamageSpares result m m store later entropy entropy
read_spares {D} {E} {result} {m} stops = record {
  undrawn = λ device cell is. refl;
  module_kept = λ device cell is. keeps_still m;
  store_uncalled = λ cell is. absurd (no_damage result cell stops is);
}

-- the module alone
pub load_spares : {D E : Type 0} {result : Result (Unit {0}) Stop} {m0 m1 : Medium} {store : D} {entropy : E} → Keeps m0 m1
    → DamageSpares result m0 m1 store store entropy entropy
load_spares keeps = record {
  undrawn = λ device cell is. refl;
  module_kept = λ device cell is. keeps;
  store_uncalled = λ cell is. refl;
}
