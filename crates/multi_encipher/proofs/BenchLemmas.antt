-- Places of the workbench that stay.
use Rattle.std.proofs.Common.{◌≡◌, ℕ, zero, suc, ◌%◌, ◌<◌, List, length, take, drop, refl, sym, ap, ◌∙◌, arith}
use Rattle.std.proofs.lemmas.List.{drop-append-le, drop_at, length-drop, take-append-le, take-take}
use Rattle.key_cells.specs.Bench.{Bench, key_of, with_key}
use Rattle.key_cells.specs.Lease.{bench_of, holding}
use Rattle.key_cells.specs.declared.leases.Lease.{Lease}
use Rattle.key_cells.specs.declared.places.KeyPlace.{KeyPlace}
use Rattle.key_cells.specs.declared.places.KeyPlace.TheVariants as place
use Rattle.key_cells.specs.declared.schedules.Schedule.{Schedule}
use Rattle.multi_encipher.specs.declared.halves.Under.{Under}
use Rattle.multi_encipher.specs.declared.halves.Under.TheVariants.{Current, Old, New, First, Second}
use Rattle.multi_encipher.specs.Bundles.{bundle_under, key_of_bundle, transport_bundle, ChangesKeyAt, IsElsewhere}

pub key_of-with_key : (bench : Bench) (into : KeyPlace) (bytes : List ℕ) → key_of (with_key bench into bytes) into ≡ bytes
key_of-with_key bench place.First bytes = refl
key_of-with_key bench place.Second bytes = refl
key_of-with_key bench place.Key bytes = refl
key_of-with_key bench place.Fresh bytes = refl

-- a key is put elsewhere, and schedules are made: the bundle stay
pub bundle-elsewhere : (bench : Bench) (under : Under) (into : KeyPlace) (bytes : List ℕ) (schedules : List Schedule) → IsElsewhere under into
    → bundle_under (record (with_key bench into bytes) { schedules = schedules }) under ≡ bundle_under bench under
bundle-elsewhere bench Current place.First bytes schedules h = refl
bundle-elsewhere bench Current place.Second bytes schedules h = refl
bundle-elsewhere bench Current place.Key bytes schedules h = refl
bundle-elsewhere bench Current place.Fresh bytes schedules h = refl
bundle-elsewhere bench Old place.First bytes schedules h = refl
bundle-elsewhere bench Old place.Second bytes schedules h = refl
bundle-elsewhere bench Old place.Key bytes schedules h = refl
bundle-elsewhere bench Old place.Fresh bytes schedules h = refl
bundle-elsewhere bench New place.First bytes schedules h = refl
bundle-elsewhere bench New place.Second bytes schedules h = refl
bundle-elsewhere bench New place.Key bytes schedules h = refl
bundle-elsewhere bench New place.Fresh bytes schedules h = refl
bundle-elsewhere bench First place.First bytes schedules h = absurd (h refl)
bundle-elsewhere bench First place.Second bytes schedules h = refl
bundle-elsewhere bench First place.Key bytes schedules h = refl
bundle-elsewhere bench First place.Fresh bytes schedules h = refl
bundle-elsewhere bench Second place.First bytes schedules h = refl
bundle-elsewhere bench Second place.Second bytes schedules h = absurd (h refl)
bundle-elsewhere bench Second place.Key bytes schedules h = refl
bundle-elsewhere bench Second place.Fresh bytes schedules h = refl

pub key_of-schedules : (bench : Bench) (into : KeyPlace) (schedules : List Schedule) → key_of (record bench { schedules = schedules }) into ≡ key_of bench into
key_of-schedules bench place.First schedules = refl
key_of-schedules bench place.Second schedules = refl
key_of-schedules bench place.Key schedules = refl
key_of-schedules bench place.Fresh schedules = refl

pub bundle-schedules : (bench : Bench) (under : Under) (schedules : List Schedule) → bundle_under (record bench { schedules = schedules }) under ≡ bundle_under bench under
bundle-schedules bench Current schedules = refl
bundle-schedules bench Old schedules = refl
bundle-schedules bench New schedules = refl
bundle-schedules bench First schedules = refl
bundle-schedules bench Second schedules = refl

-- another key is put over one that was put, and schedules are made again: only they change
pub key-again : (l mid : Lease) (into : KeyPlace) (w : List ℕ) → ChangesKeyAt into l mid → ChangesKeyAt into l (holding mid (with_key (bench_of mid) into w))
key-again l mid place.First w is = ap (λ x. holding x (with_key (bench_of x) place.First w)) is
key-again l mid place.Second w is = ap (λ x. holding x (with_key (bench_of x) place.Second w)) is
key-again l mid place.Key w is = ap (λ x. holding x (with_key (bench_of x) place.Key w)) is
key-again l mid place.Fresh w is = ap (λ x. holding x (with_key (bench_of x) place.Fresh w)) is

pub key-then : (l mid new : Lease) (into : KeyPlace) → ChangesKeyAt into l mid → ChangesKeyAt into mid new → ChangesKeyAt into l new
key-then l mid new place.First first second = second ∙ ap (λ x. holding x (record (with_key (bench_of x) place.First (key_of (bench_of new) place.First)) { schedules = (bench_of new).schedules })) first
key-then l mid new place.Second first second = second ∙ ap (λ x. holding x (record (with_key (bench_of x) place.Second (key_of (bench_of new) place.Second)) { schedules = (bench_of new).schedules })) first
key-then l mid new place.Key first second = second ∙ ap (λ x. holding x (record (with_key (bench_of x) place.Key (key_of (bench_of new) place.Key)) { schedules = (bench_of new).schedules })) first
key-then l mid new place.Fresh first second = second ∙ ap (λ x. holding x (record (with_key (bench_of x) place.Fresh (key_of (bench_of new) place.Fresh)) { schedules = (bench_of new).schedules })) first

-- the keys of a transport key's bundle are its halves in turn
pub transport-part : (key : List ℕ) (n : ℕ) → n < 3 → length key ≡ 16 → key_of_bundle key (n % 2) ≡ key_of_bundle (transport_bundle key) n
transport-part key zero h long = sym (take-append-le 8 key (take 8 key) (omega (arith, long)))
transport-part key (suc zero) h long =
    sym (ap (take 8) (drop-append-le 8 key (take 8 key) (omega (arith, long))) ∙ take-append-le 8 (drop 8 key) (take 8 key) (omega (arith, length-drop 8 key, long)))
transport-part key (suc (suc zero)) h long = sym (ap (take 8) (drop_at key (take 8 key) 16 long) ∙ take-take 8 8 key (omega arith))
transport-part key (suc (suc (suc n))) h long = absurd (omega arith)
