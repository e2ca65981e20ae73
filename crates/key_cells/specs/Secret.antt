-- What a secret shows of the array that it guards.
use Rattle.std.specs.Prelude.{ℕ, List}
use Rattle.std.specs.Borrow.{GName}
use Rattle.key_cells.specs.declared.secrets.Secret.{Secret}

-- the bytes of the array
abbrev pub bytes_of : {n : _} → Secret n → List ℕ
bytes_of secret = secret.bytes.now

-- which loan of an array a secret holds
abbrev pub array_of : {n : _} → Secret n → GName
array_of secret = secret.bytes.ghost_name
