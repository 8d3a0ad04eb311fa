-- A text is gone through again: the levels that can be held at depth d, as far as they have come up.
use Prim.Native.Nat.{ℕ, suc, ◌+◌, ◌-◌, ◌<◌, ◌≤◌}
use mathlib.Core.Path.{◌≡◌}
use mathlib.Core.Bool.{true}
use mathlib.Core.List.{List}
use native.Mathlib.Numerals.{add-one}
use native.Mathlib.Omega.{arith}
use borrow.Author.Tests.{lt-ltb}
use lib.ListN.{length, get_or, take}
use Rattle.tables.specs.Limits.{word_limit}
use Rattle.text_parts.specs.Scans.{scanned}
use Rattle.text_xml_form.specs.Scan.{stage_on, number_on, depth_on, goes, on, standing}
use Rattle.text_xml_in.specs.Levels.{held_levels, Held, noted, StandsAt, Recallable}
use Rattle.text_xml_in.proofs.Standing.{goes_before, stands_start, stands_depth, stands_small, stands_opened, stands_next}
use Rattle.text_xml_in.proofs.Holding.{Stand-from, from_next, from_none, from_held}

pub record Recalling (s : List ℕ) (i d : ℕ) (row : List ℕ) (q v e j : ℕ) : Type 0 where
  pub at : StandsAt s j q v e
  pub before : j ≤ i
  pub from : Stand-from row (d - held_levels) d (standing (take j s)).opened

module _ {s : List ℕ} {i d : ℕ} {first : List ℕ} (pre : Recallable s i d first) where
  pub recall_start : Recalling s i d first 0 0 0 0
  unfolding standing scanned
  recall_start = record { at = stands_start s; before = omega arith; from = from_none first (d - held_levels) d pre.long }

  recall_on : on (standing (take i s)) ≡ true
  unfolding on
  recall_on = lt-ltb (standing (take i s)).stage 7 pre.on

  module _ {row : List ℕ} {q v e j : ℕ} (here : Recalling s i d row q v e j) where
    pub recall_all : i ≤ j → Held row (d - held_levels) (standing (take i s)).opened
    recall_all h =
        let same : j ≡ i = omega (arith, here.before) in
        from_held d pre.depth (rw same at here.from)

    module _ (h : j < i) where
      pub recall_small : v < word_limit
      recall_small = stands_small s j q v e here.at

      pub recall_depth : e < length s
      recall_depth = omega (arith, stands_depth s j q v e here.at, pre.within)

      module _ {c : ℕ} (is : c ≡ get_or s j 0) {next : List ℕ} (put : next ≡ noted q v c e d row) where
        goes_on : goes (standing (take j s)) c ≡ true
        goes_on = rw is (goes_before s i j h pre.within recall_on)

        moved : Recalling s i d next (stage_on q c) (number_on v c) (depth_on q c e) (suc j)
        moved = record {
          at = stands_next s j q v e here.at (omega (arith, pre.within)) is goes_on;
          before = h;
          from = rw (stands_opened s j q v e here.at (omega (arith, pre.within)) is goes_on, put, ← here.at.depth) (from_next q v c d (standing (take j s)).opened here.from);
        }

        pub recall_next : {q₁ v₁ e₁ : ℕ} → q₁ ≡ stage_on q c → v₁ ≡ number_on v c → e₁ ≡ depth_on q c e → Recalling s i d next q₁ v₁ e₁ (j + 1)
        recall_next a b f = rw (a, b, f, add-one j) moved
