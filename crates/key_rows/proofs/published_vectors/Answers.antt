-- The definitions compute.
use Rattle.std.proofs.Common.{refl}
use Rattle.des_blocks.specs.Bits.{bits, number, xor}
use Rattle.des_blocks.specs.Des.{places, key_schedule, round_keys, look_up, substitute, f, rounds, crypt}
use Rattle.key_rows.proofs.published_vectors.Goals as goal

pub returns-clause-single : goal.returns-clause-single
unfolding bits number xor places key_schedule round_keys look_up substitute f rounds crypt
returns-clause-single c = (
  record { forth = refl; back = refl },
  (
    record { forth = refl; back = refl },
    (
      record { forth = refl; back = refl },
      (
        record { forth = refl; back = refl },
        (
          record { forth = refl; back = refl },
          (
            record { forth = refl; back = refl },
            (
              record { forth = refl; back = refl },
              (
                record { forth = refl; back = refl },
                (
                  record { forth = refl; back = refl },
                  (
                    record { forth = refl; back = refl },
                    (
                      record { forth = refl; back = refl },
                      (
                        record { forth = refl; back = refl },
                        (
                          record { forth = refl; back = refl },
                          (
                            record { forth = refl; back = refl },
                            (
                              record { forth = refl; back = refl },
                              (
                                record { forth = refl; back = refl },
                                (
                                  record { forth = refl; back = refl },
                                  (
                                    record { forth = refl; back = refl },
                                    (
                                      record { forth = refl; back = refl },
                                      tt,
                                    ),
                                  ),
                                ),
                              ),
                            ),
                          ),
                        ),
                      ),
                    ),
                  ),
                ),
              ),
            ),
          ),
        ),
      ),
    ),
  ),
)

pub returns-clause-triple : goal.returns-clause-triple
unfolding bits number xor places key_schedule round_keys look_up substitute f rounds crypt
returns-clause-triple c = record { first = refl; second = refl; third = refl }
