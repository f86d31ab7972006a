-- The laws of the bits, by their cases.
use Rattle.std.specs.Prelude.{refl, true, false}
use Rattle.std.proofs.Common.{sym, true≢false}
use Rattle.elements.specs.Laws.{Compares, Closed, Ring, Inverses, Laws}
use Rattle.elements.specs.Bits.{Bit, bits}

pub bits_laws : Laws Bit bits
bits_laws = record { compares = compares; closed = closed; ring = ring; inverses = inverses }
  where
    compares : Compares bits
    compares = record {
      equal = elim [ true ↦ elim [ true ↦ λ _. refl | false ↦ λ e. sym e ] | false ↦ elim [ true ↦ λ e. e | false ↦ λ _. refl ] ];
      alike = elim [ true ↦ elim [ true ↦ λ _. refl | false ↦ λ e. sym e ] | false ↦ elim [ true ↦ λ e. e | false ↦ λ _. refl ] ];
    }

    closed : Closed Bit bits
    closed = record { zero = tt; one = tt; add = λ _ _ _ _. tt; neg = λ _ _. tt; mul = λ _ _ _ _. tt }

    ring : Ring Bit bits
    ring = record {
      add_assoc = elim [ true ↦ elim [ true ↦ elim [ true ↦ λ _ _ _. refl | false ↦ λ _ _ _. refl ] | false ↦ elim [ true ↦ λ _ _ _. refl | false ↦ λ _ _ _. refl ] ] | false ↦ elim [ true ↦ elim [ true ↦ λ _ _ _. refl | false ↦ λ _ _ _. refl ] | false ↦ elim [ true ↦ λ _ _ _. refl | false ↦ λ _ _ _. refl ] ] ];
      add_comm = elim [ true ↦ elim [ true ↦ λ _ _. refl | false ↦ λ _ _. refl ] | false ↦ elim [ true ↦ λ _ _. refl | false ↦ λ _ _. refl ] ];
      add-zero = elim [ true ↦ λ _. refl | false ↦ λ _. refl ];
      add_neg = elim [ true ↦ λ _. refl | false ↦ λ _. refl ];
      mul_assoc = elim [ true ↦ λ _ _ _ _ _. refl | false ↦ λ _ _ _ _ _. refl ];
      mul_comm = elim [ true ↦ elim [ true ↦ λ _ _. refl | false ↦ λ _ _. refl ] | false ↦ elim [ true ↦ λ _ _. refl | false ↦ λ _ _. refl ] ];
      mul-one = elim [ true ↦ λ _. refl | false ↦ λ _. refl ];
      mul-add = elim [ true ↦ λ _ _ _ _ _. refl | false ↦ λ _ _ _ _ _. refl ];
      one_apart = true≢false;
    }

    inverses : Inverses Bit bits
    inverses = record {
      inv_ok = λ _ _. tt;
      inv_zero = refl;
      mul_inv = elim [ true ↦ λ _ _. refl | false ↦ λ _ h. absurd (h refl) ];
    }
