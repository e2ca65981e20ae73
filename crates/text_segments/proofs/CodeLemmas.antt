-- The last block of a code's chain, under the schedules of its key.
use Rattle.std.proofs.Common.{◌≡◌, ◌∙◌, ◌*◌, ◌/◌, ℕ, List, length, take, ap}
use Rattle.des_blocks.specs.Modes.{blocks, cbc, cbc_mac, fill, last_block, mac_x99, zero_block}
use Rattle.des_blocks.specs.Schedules.{IsOf, schedule_at}
use Rattle.key_cells.specs.declared.schedules.Schedule.{Schedule}
use Rattle.key_tokens.specs.Denotes.{ClearKey}
use Rattle.verb_rules.specs.declared.lengths.MacRule.{MacRule}
use Rattle.verb_rules.specs.declared.lengths.MacRule.TheVariants.{X99, X919}
use Rattle.verb_rules.specs.LengthChecks.{mac_key_length}
use Rattle.verb_rules.specs.Scheduled.{HoldKey}
use Rattle.mac_verbs.proofs.CodeLemmas.{left_schedule, single_schedule}
use Rattle.key_cells.specs.Bench.{Text}
use Rattle.key_cells.specs.Lease.{bench_of, holding}
use Rattle.key_cells.specs.declared.leases.Lease.{Lease}
use Rattle.verb_rules.specs.Keys.{opened}
use Rattle.verb_rules.specs.declared.judging.Judged.{Judged}
use Rattle.text_segments.specs.Segments.{code_cipher, rest_part, whole_part}
use Rattle.text_segments.specs.declared.chains.Chain.{Chain}

pub code_under : (rule : MacRule) (clear : ClearKey) (held schedules : List Schedule) (text result : List ℕ) → length clear.key ≡ mac_key_length rule → held ≡ schedules → HoldKey schedules clear.key
    → ((key : List ℕ) → IsOf (schedule_at held 0) key → result ≡ mac_x99 key text)
    → result ≡ last_block zero_block (cbc (code_cipher rule clear) zero_block (blocks (fill text)))
unfolding cbc_mac
code_under X99 clear held schedules text result long is hold made = made clear.key (single_schedule held schedules clear.key long is hold)
code_under X919 clear held schedules text result long is hold made = made (take 8 clear.key) (left_schedule held schedules clear.key is hold)

-- another text in its place leaves the clear key
pub same_key : (old new : Lease) (text : Text) (key : Judged) → new ≡ holding old (record (bench_of old) { text = text })
    → opened (bench_of new) key ≡ opened (bench_of old) key
same_key old new text key is = ap (λ l. opened (bench_of l) key) is

abbrev made : List ℕ → List ℕ → Chain
made block carried = record { block = block; carried = carried }

-- the chain after a segment, from where its bytes were read
pub coded : (rule : MacRule) (clear found : ClearKey) (start hand one text block carried : List ℕ) → found ≡ clear → one ≡ hand → text ≡ hand
    → block ≡ last_block start (cbc (code_cipher rule found) start (blocks (take (length one / 8 * 8) text))) → carried ≡ rest_part hand
    → made block carried ≡ made (last_block start (cbc (code_cipher rule clear) start (blocks (whole_part hand)))) (rest_part hand)
coded rule clear found start hand one text block carried key read there is rest =
    ap (made block) rest
    ∙ ap (λ b. made b (rest_part hand))
    (is
    ∙ ap (λ k. last_block start (cbc (code_cipher rule k) start (blocks (take (length one / 8 * 8) text)))) key
    ∙ ap (λ xs. last_block start (cbc (code_cipher rule clear) start (blocks (take (length xs / 8 * 8) text)))) read
    ∙ ap (λ xs. last_block start (cbc (code_cipher rule clear) start (blocks (take (length hand / 8 * 8) xs)))) there)
