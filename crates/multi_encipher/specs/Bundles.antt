-- Key bundles: the three keys of 8 bytes under which others are enciphered, in a row.
use Rattle.std.specs.Prelude.{◌≡◌, ◌≢◌, ℕ, ◌+◌, ◌-◌, ◌*◌, List, ◌++◌, replicate, slice_range, ⊤}
use Rattle.cca_vectors.specs.Vectors.{length_of}
use Rattle.key_cells.specs.Bench.{Bench, key_of, with_key}
use Rattle.key_cells.specs.Lease.{bench_of, holding}
use Rattle.key_cells.specs.declared.leases.Lease.{Lease}
use Rattle.key_cells.specs.declared.places.KeyPlace.{KeyPlace}
use Rattle.key_cells.specs.declared.places.KeyPlace.TheVariants as place
use Rattle.multi_encipher.specs.declared.halves.Under.{Under}
use Rattle.multi_encipher.specs.declared.halves.Under.TheVariants.{Current, Old, New, First, Second}

-- key n of a bundle, from 0
abbrev pub key_of_bundle : List ℕ → ℕ → List ℕ
key_of_bundle bundle n = slice_range bundle (8 * n) (8 * n + 8)

-- the bundle of a transport key of 16 bytes: its left half, its right half and its left half again
abbrev pub transport_bundle : List ℕ → List ℕ
transport_bundle key = key ++ slice_range key 0 8

-- the bundle that stands in a place
abbrev pub bundle_under : Bench → Under → List ℕ
bundle_under bench Current = bench.current
bundle_under bench Old = bench.former
bundle_under bench New = bench.coming
bundle_under bench First = transport_bundle bench.first
bundle_under bench Second = transport_bundle bench.second

-- the place of a key isn't the one under which keys are enciphered
abbrev pub IsElsewhere : Under → KeyPlace → Type 0
IsElsewhere Current into = ⊤
IsElsewhere Old into = ⊤
IsElsewhere New into = ⊤
IsElsewhere First into = into ≢ place.First
IsElsewhere Second into = into ≢ place.Second

-- of a lease the schedules may have changed, and nothing else
abbrev pub ChangesSchedules : Lease → Lease → Type 0
ChangesSchedules old new =
    new ≡ holding old (record (bench_of old) { schedules = (bench_of new).schedules })

-- of a lease the schedules and a key's place may have changed, and nothing else
abbrev pub ChangesKeyAt : KeyPlace → Lease → Lease → Type 0
ChangesKeyAt place old new =
    new ≡ holding old (record (with_key (bench_of old) place (key_of (bench_of new) place)) {
      schedules = (bench_of new).schedules;
    })

-- the key that stands in 16 bytes, by the length that its vector says
abbrev pub key_in : List ℕ → List ℕ → List ℕ
key_in vector bytes = slice_range bytes 0 (length_of vector)

-- the 16 bytes in which a key stands, with zeros after a single-length one
abbrev pub with_zeros : List ℕ → List ℕ → List ℕ
with_zeros vector key = key ++ replicate (16 - length_of vector) 0
