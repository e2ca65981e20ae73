-- Texts that name a type of keys or none, and types that are a pair or not.
use Rattle.std.specs.Prelude.{◌≡◌, true, false, codes, None, Some}
use Rattle.cca_vectors.specs.KeyTypes.{type_named, is_pair}
use Rattle.cca_vectors.specs.declared.key_type.KeyType.TheVariants.{Macver, Exporter, Okeyxlat, Ikeyxlat}

pub record TypesStand : Type 0 where
  pub by_name : type_named (codes "MACVER") ≡ Some Macver
  pub one_letter_more : type_named (codes "MACVERS") ≡ None
  pub small_letters : type_named (codes "data") ≡ None
  pub listed : is_pair Exporter Ikeyxlat ≡ true
  pub in_the_other_order : is_pair Ikeyxlat Exporter ≡ true
  pub apart : is_pair Exporter Okeyxlat ≡ false
