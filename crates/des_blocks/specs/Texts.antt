-- Texts that are worked on in place, by cipher block chaining (FIPS 81).
use Rattle.std.specs.Prelude.{ℕ, ◌+◌, ◌-◌, List, ◌++◌, length, take, drop, replicate}
use Rattle.key_cells.specs.Bench.{text_of, with_text_of}
use Rattle.key_cells.specs.Lease.{bench_of, holding}
use Rattle.key_cells.specs.declared.leases.Lease.{Lease}
use Rattle.key_cells.specs.declared.schedules.Schedule.{Schedule}
use Rattle.des_blocks.specs.Modes.{blocks, cbc, joined, uncbc}

-- a text enciphered in a chain by a cipher, from an initial value
abbrev pub cbc_text : (List ℕ → List ℕ) → List ℕ → List ℕ → List ℕ
cbc_text e start text = joined (cbc e start (blocks text))

-- a text deciphered in a chain by the inverse of a cipher
abbrev pub uncbc_text : (List ℕ → List ℕ) → List ℕ → List ℕ → List ℕ
uncbc_text d start text = joined (uncbc d start (blocks text))

-- a text deciphered in a chain from a place on, and what stands before the place as it is
abbrev pub uncbc_from : (List ℕ → List ℕ) → List ℕ → ℕ → List ℕ → List ℕ
uncbc_from d chain at text = take at text ++ uncbc_text d chain (drop at text)

-- the text of the bench that a lease holds
abbrev pub text_in : Lease → List ℕ
text_in lease = text_of (bench_of lease).text

-- its three schedules
abbrev pub schedules_in : Lease → List Schedule
schedules_in lease = (bench_of lease).schedules

-- the lease with another text of the same length, and all other places as they are
abbrev pub with_text_in : Lease → List ℕ → Lease
with_text_in lease text = holding lease (with_text_of (bench_of lease) text)

-- a text with other bytes at a place of eight
abbrev pub put_at : List ℕ → ℕ → List ℕ → List ℕ
put_at text at bytes = take at text ++ (bytes ++ drop (at + 8) text)

-- a block of at most eight bytes, filled with zeros to eight
abbrev pub fill_block : List ℕ → List ℕ
fill_block block = block ++ replicate (8 - length block) 0
