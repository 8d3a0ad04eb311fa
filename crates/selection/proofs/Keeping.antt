-- What an insert leaves as it was and what it adds, as records: nodes that are kept, and a copy of a tree.
use Prim.Native.Nat.{ℕ, ◌+◌, ◌<◌, ◌≤◌}
use mathlib.Core.Path.{◌≡◌, refl, ◌∙◌}
use mathlib.Core.Bool.{true}
use mathlib.Core.List.{List, ◌++◌}
use native.Mathlib.Omega.{arith}
use Rattle.tables.specs.Words.{nodes, parent, tag}
use Rattle.tables.specs.Documents.{Doc, mark, present}
use Rattle.selection.specs.Ways.{up, sel, selected}
use Rattle.selection.specs.Operations.{copied_parent}
use Rattle.selection.proofs.Presence.{is_present, present-same}

-- every used node of d is in e as it was
pub record Kept (d e : Doc) : Type 0 where
  pub inside : d.used ≤ e.used
  pub parents : (v : ℕ) → v < d.used → parent e.rows v ≡ parent d.rows v
  pub tags : (v : ℕ) → v < d.used → tag e.rows v ≡ tag d.rows v
  pub marks : (v : ℕ) → v < d.used → mark e v ≡ mark d v
  pub ways : (v : ℕ) → v < d.used → up e.rows v ≡ up d.rows v

-- the nodes of e from base on are those of x, hung under q; `way` is the way of q
pub record Copy (x way : List ℕ) (q base : ℕ) (e : Doc) : Type 0 where
  pub inside : base + nodes x ≤ e.used
  pub parents : (k : ℕ) → k < nodes x → parent e.rows (base + k) ≡ copied_parent x q base k
  pub tags : (k : ℕ) → k < nodes x → tag e.rows (base + k) ≡ tag x k
  pub marks : (k : ℕ) → k < nodes x → mark e (base + k) ≡ 0
  pub ways : (k : ℕ) → k < nodes x → up e.rows (base + k) ≡ up x k ++ way

-- a kept node is as present, and as selected, as it was
pub kept_present : {d e : Doc} → Kept d e → (v : ℕ) → v < d.used → present e v ≡ present d v
kept_present {d} {e} kept v h = present-same e d v (omega arith) h (kept.marks v h)

pub kept_selected : {d e : Doc} → Kept d e → (r : List ℕ) (v : ℕ) → v < d.used → selected r e v ≡ selected r d v
unfolding selected
kept_selected kept r v h = rw (kept_present kept v h, kept.ways v h) refl

-- a copied node is present, and selected exactly as its way says
pub copy_present : {x way : List ℕ} {q base : ℕ} {e : Doc} → Copy x way q base e → (k : ℕ) → k < nodes x → present e (base + k) ≡ true
copy_present {base} {e} copy k h = is_present e (base + k) (omega arith) (copy.marks k h)

pub copy_selected : {x way : List ℕ} {q base : ℕ} {e : Doc} → Copy x way q base e → (r : List ℕ) (k : ℕ) → k < nodes x → selected r e (base + k) ≡ sel r (up x k ++ way)
unfolding selected
copy_selected copy r k h = rw (copy_present copy k h, copy.ways k h) refl

pub kept_all : (d : Doc) → Kept d d
kept_all d = record { inside = omega arith; parents = λ v h. refl; tags = λ v h. refl; marks = λ v h. refl; ways = λ v h. refl }

pub kept_on : {c d e : Doc} → Kept c d → Kept d e → Kept c e
kept_on first next = record {
  inside = omega arith;
  parents = λ v h. next.parents v (omega arith) ∙ first.parents v h;
  tags = λ v h. next.tags v (omega arith) ∙ first.tags v h;
  marks = λ v h. next.marks v (omega arith) ∙ first.marks v h;
  ways = λ v h. next.ways v (omega arith) ∙ first.ways v h;
}

-- a copy stays one where its nodes are kept
pub copy_kept : {x way : List ℕ} {q base : ℕ} {d e : Doc} → Copy x way q base d → Kept d e → Copy x way q base e
copy_kept {base} copy kept = record {
  inside = omega arith;
  parents = λ k h. kept.parents (base + k) (omega arith) ∙ copy.parents k h;
  tags = λ k h. kept.tags (base + k) (omega arith) ∙ copy.tags k h;
  marks = λ k h. kept.marks (base + k) (omega arith) ∙ copy.marks k h;
  ways = λ k h. kept.ways (base + k) (omega arith) ∙ copy.ways k h;
}
