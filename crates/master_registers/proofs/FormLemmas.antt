-- The table of the registers as it is written: the states first, and then one register after the other.
use Rattle.std.proofs.Common.{◌≡◌, ℕ, ◌+◌, List, ◌∷◌, ◌++◌, length, take, drop, replicate, Option, None, Some, refl, sym, ap, ◌∙◌, arith}
use Rattle.std.specs.Prelude.{slice_range}
use Rattle.std.proofs.lemmas.List.{drop-drop, drop_at, length-append, take_at}
use Rattle.key_cells.specs.Bench.{master_of, with_master}
use Rattle.key_cells.specs.Lease.{bench_of, holding}
use Rattle.key_cells.specs.declared.leases.Lease.{Lease}
use Rattle.key_cells.specs.declared.places.MasterPlace.{MasterPlace}
use Rattle.master_registers.specs.Masters.{Masters, IsMasters, new_bytes, kept_bytes, state_of}
use Rattle.master_registers.specs.RegisterBody.{registers_body, state_code, kept_code}
use Rattle.master_registers.specs.BodyForm.{states_body}
use Rattle.master_registers.specs.Loaded.{pattern_in, registers_of}
use Rattle.master_registers.specs.declared.registers.Registers.{Registers}

-- a piece put behind a front
put_behind : (front rest piece : List ℕ) (n : ℕ) → length front ≡ n → take n (front ++ rest) ++ piece ++ drop (n + 24) (front ++ rest) ≡ front ++ piece ++ drop 24 rest
put_behind front rest piece n long =
    ap (λ l. l ++ piece ++ drop (n + 24) (front ++ rest)) (take_at front rest n long)
    ∙ ap (λ l. front ++ piece ++ l) (sym (drop-drop 24 n (front ++ rest)) ∙ ap (drop 24) (drop_at front rest n long))

codes_kept : (r : Option (List ℕ)) → kept_code (pattern_in r) ≡ kept_code r
codes_kept None = refl
codes_kept (Some bytes) = refl

-- the body with its three registers
abbrev pub three_put : List ℕ → List ℕ → List ℕ → List ℕ → List ℕ
three_put body coming current former =
    let first = take 8 body ++ coming ++ drop 32 body in
    let second = take 32 first ++ current ++ drop 56 first in
    take 56 second ++ former ++ drop 80 second

module _ (front rest coming current former : List ℕ) (eight : length front ≡ 8) (x : length coming ≡ 24) (y : length current ≡ 24) (z : length former ≡ 24) where
  put_three : three_put (front ++ rest) coming current former ≡ front ++ coming ++ current ++ former ++ drop 72 rest
  put_three =
      let one : take 8 (front ++ rest) ++ coming ++ drop 32 (front ++ rest) ≡ front ++ coming ++ drop 24 rest = put_behind front rest coming 8 eight in
      let long2 : length (front ++ coming) ≡ 32 = length-append front coming ∙ omega arith in
      let long3 : length (front ++ coming ++ current) ≡ 56 = length-append (front ++ coming) current ∙ omega arith in
      ap (λ l. let second = take 32 l ++ current ++ drop 56 l in take 56 second ++ former ++ drop 80 second) one
      ∙ ap (λ l. take 56 l ++ former ++ drop 80 l) (put_behind (front ++ coming) (drop 24 rest) current 32 long2 ∙ ap (λ l. front ++ coming ++ current ++ l) (drop-drop 24 24 rest))
      ∙ put_behind (front ++ coming ++ current) (drop 48 rest) former 56 long3
      ∙ ap (λ l. front ++ coming ++ current ++ former ++ l) (drop-drop 24 48 rest)

pub three_registers : (m : Masters) (held : Registers) → IsMasters m → held ≡ registers_of m
    → three_put (states_body held) (new_bytes m.coming) (kept_bytes m.current) (kept_bytes m.former) ≡ registers_body m
unfolding states_body registers_body
three_registers m held valid told =
    let front : List ℕ = 1 ∷ state_code (state_of m.coming) ∷ kept_code m.current ∷ kept_code m.former ∷ replicate 4 0 in
    ap (λ (h : Registers). three_put (states_body h) (new_bytes m.coming) (kept_bytes m.current) (kept_bytes m.former)) told
    ∙ ap (λ n. three_put (1 ∷ state_code (state_of m.coming) ∷ n ∷ kept_code (pattern_in m.former) ∷ replicate 188 0) (new_bytes m.coming) (kept_bytes m.current) (kept_bytes m.former)) (codes_kept m.current)
    ∙ ap (λ n. three_put (1 ∷ state_code (state_of m.coming) ∷ kept_code m.current ∷ n ∷ replicate 188 0) (new_bytes m.coming) (kept_bytes m.current) (kept_bytes m.former)) (codes_kept m.former)
    ∙ put_three front (replicate 184 0) (new_bytes m.coming) (kept_bytes m.current) (kept_bytes m.former) refl valid.coming.size valid.current.size valid.former.size

-- ---- the same in a lease

-- a register copied into the body
abbrev pub with_put : ℕ → MasterPlace → Lease → Lease
with_put at place lease = holding lease (record (bench_of lease) { body = take at (bench_of lease).body ++ master_of (bench_of lease) place ++ drop (at + 24) (bench_of lease).body })

-- a register taken from the body
abbrev pub with_taken : ℕ → MasterPlace → Lease → Lease
with_taken at place lease = holding lease (with_master (bench_of lease) place (slice_range (bench_of lease).body at (at + 24)))
