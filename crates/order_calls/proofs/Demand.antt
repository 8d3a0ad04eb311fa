-- Over what the calls do, every order that keeps to the slots gives what the batch's own order gives: one theorem over what a read is shown, and its two instances.
use Prim.Native.Nat.{ℕ}
use mathlib.Core.Path.{sym, ◌∙◌}
use mathlib.Core.Bool.{Bool, false≢true}
use mathlib.Core.List.{List}
use Rattle.selection.specs.Showing.{SameNodes, SameBelow}
use Rattle.selection.proofs.Showing.{nodes_refl, nodes_sym, nodes_trans, below_refl, below_sym, below_trans, below_nodes}
use Rattle.identities.specs.Documents.{Document, SoundDocument}
use Rattle.identities.specs.Showing.{SameIdentities, SameIdentitiesBelow}
use Rattle.identities.proofs.Updates.{after_sound, stored_in_sound}
use Rattle.identities.proofs.Showing.{identities_refl, identities_sym, identities_trans, identities_below_refl, identities_below_sym, identities_below_trans, below_identities}
use Rattle.identities.proofs.Conflict.{nodes_delete_in, beneath_delete_in, identities_delete, identities_below_delete, nodes_insert_in, beneath_insert_in, identities_insert, identities_below_insert}
use Rattle.conflict.specs.Conflict.{Update, delete, insert, Conflict, Deep}
use Rattle.order.specs.Model.{Fits, Order, Same}
use Rattle.order.specs.Frames.{Frame}
use Rattle.order.specs.Fitting.{Fit, FitUpdate, FitFrame, DecidedBy}
use Rattle.order.proofs.Walking.{Lawful}
use Rattle.order.proofs.Theorem.{order_same}
use Rattle.order_calls.specs.Running.{updated}

updated_sound : (u : Update) → FitUpdate u → {d : Document} → SoundDocument d → SoundDocument (updated u d)
updated_sound (delete p) fit {d} sound = after_sound (delete p) fit.two d sound
updated_sound (insert p x) fit {d} sound = stored_in_sound p x d fit.tree sound

-- what is asked of a relation of reads and updates, and of what a read is shown: where they are not related, an update changes nothing of it, refused or not
pub record Shown (Related : List ℕ → Update → Type 0) (Alike : List ℕ → Document → Document → Type 0) : Type 0 where
  pub unchanged : (r : List ℕ) (u : Update) → Fit r → FitUpdate u → (Related r u → ⊥) → (d : Document) → SoundDocument d → Alike r (updated u d) d
  pub itself : {r : List ℕ} {d : Document} → Alike r d d
  pub back : {r : List ℕ} {d e : Document} → Alike r d e → Alike r e d
  pub on : {r : List ℕ} {c d e : Document} → Alike r c d → Alike r d e → Alike r c e
  -- it tells the read's identities at least, and its nodes
  pub identities : {r : List ℕ} {d e : Document} → Alike r d e → SameIdentities r d e
  pub nodes : {r : List ℕ} {d e : Document} → Alike r d e → SameNodes r d.tables e.tables

-- the same identities, at the same nodes
pub record NodesAlike (r : List ℕ) (d e : Document) : Type 0 where
  pub identities : SameIdentities r d e
  pub nodes : SameNodes r d.tables e.tables

-- the same identities with the same present ones below each, at the same nodes
pub record BelowAlike (r : List ℕ) (d e : Document) : Type 0 where
  pub identities : SameIdentitiesBelow r d e
  pub nodes : SameBelow r d.tables e.tables

-- identities and nodes, by conflicts
pub nodes_shown : Shown Conflict NodesAlike
nodes_shown = record {
  unchanged = unchanged;
  itself = record { identities = identities_refl _; nodes = nodes_refl _ };
  back = λ same. record { identities = identities_sym same.identities; nodes = nodes_sym same.nodes };
  on = λ first next. record { identities = identities_trans first.identities next.identities; nodes = nodes_trans first.nodes next.nodes };
  identities = λ same. same.identities;
  nodes = λ same. same.nodes;
}
  where
    unchanged : (r : List ℕ) (u : Update) → Fit r → FitUpdate u → (Conflict r u → ⊥) → (d : Document) → SoundDocument d → NodesAlike r (updated u d) d
    unchanged r (delete p) reads fit clear d sound = record {
      identities = identities_delete r p reads.pattern fit.fit.pattern fit.two reads.labels fit.fit.labels d sound clear;
      nodes = nodes_delete_in r p reads.pattern fit.fit.pattern fit.two reads.labels fit.fit.labels d sound clear;
    }
    unchanged r (insert p x) reads fit clear d sound = record {
      identities = identities_insert r p x reads.pattern fit.fit.pattern fit.tree reads.labels fit.fit.labels d sound clear;
      nodes = nodes_insert_in r p x reads.pattern fit.fit.pattern fit.tree reads.labels fit.fit.labels d sound clear;
    }

-- these and what is present below each, by deep conflicts
pub below_shown : Shown Deep BelowAlike
below_shown = record {
  unchanged = unchanged;
  itself = record { identities = identities_below_refl _; nodes = below_refl _ };
  back = λ same. record { identities = identities_below_sym same.identities; nodes = below_sym same.nodes };
  on = λ first next. record { identities = identities_below_trans first.identities next.identities; nodes = below_trans first.nodes next.nodes };
  identities = λ same. below_identities same.identities;
  nodes = λ same. below_nodes same.nodes;
}
  where
    unchanged : (r : List ℕ) (u : Update) → Fit r → FitUpdate u → (Deep r u → ⊥) → (d : Document) → SoundDocument d → BelowAlike r (updated u d) d
    unchanged r (delete p) reads fit clear d sound = record {
      identities = identities_below_delete r p reads.pattern fit.fit.pattern fit.two reads.labels fit.fit.labels d sound clear;
      nodes = beneath_delete_in r p reads.pattern fit.fit.pattern fit.two reads.labels fit.fit.labels d sound clear;
    }
    unchanged r (insert p x) reads fit clear d sound = record {
      identities = identities_below_insert r p x reads.pattern fit.fit.pattern fit.tree reads.labels fit.fit.labels d sound clear;
      nodes = beneath_insert_in r p x reads.pattern fit.fit.pattern fit.tree reads.labels fit.fit.labels d sound clear;
    }

-- such a relation, and a test that decides it
module _ {Related : List ℕ → Update → Type 0} {Alike : List ℕ → Document → Document → Type 0} (shown : Shown Related Alike)
    {test : List ℕ → Update → Bool} (decides : DecidedBy Related test) where
  -- what the theorem asks holds of documents
  running_lawful : Lawful updated Alike test FitFrame SoundDocument
  running_lawful = record {
    keeps = λ {u} fit sound. updated_sound u fit sound;
    unchanged = λ {r} {u} reads fit e {d} sound.
        shown.unchanged r u reads fit (λ c. false≢true (sym e ∙ (decides.exactly reads fit).1 c)) d sound;
    itself = shown.itself;
    back = shown.back;
    on = shown.on;
  }

  -- an order by the slots of such a relation gives what the own order gives
  pub shown_same : {b : List (Frame (List ℕ) Update)} → Fits FitFrame b → {d : Document} → SoundDocument d → {o : List ℕ} → Order test b o → Same updated Alike b o d
  shown_same fits sound order = order_same running_lawful fits sound order
