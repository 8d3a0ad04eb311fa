-- The customer's three demands over the public promises. That every call ends is part of what it means that a function is proved.
--
--   DemandOne     each call's refusals, by its order of checks
--   DemandTwo     the verdict and its witness; reading, deleting and inserting, by embeddings
--   DemandThree   the plan; a batch run call by call, in any order that keeps the plan; in each of the two modes (InBothModes)
--   Besides       what else the documents say of the calls: deep verdicts, proposed trees, plans, the two readings, the walker, patterns as text,
--                 trees as tags there and back, what stays, the program's two numbers, P1 to P15
--
-- Requests.antt has the laws over several calls that document 02 asks for.
--
-- A call is named by its promise: Read, Delete, Insert, Compact, Mend, NodeVerdict, DeepVerdict, Checks, Plan and so on, each over what is lent to it before and after.
-- Told says that an exported function returns the numbers of an answer that meets such a promise. Demands/Names.antt says where each name of this page
-- is defined, and which function makes each promise.
pub mod Names
use Names.*

-- one of the numbered refusals: 1 to 13 of document 01, 14 to 16 of document 02
pub record Numbered (r : Refusal) : Type 0 where
  pub least : 1 ≤ reason_number r.reason
  pub most : reason_number r.reason ≤ 16

-- the numbers a are by an order of checks: no refusal where that is fine; else its refusal, with number, table and place, which is one of the
-- numbered ones, and what was lent is kept
pub record ByOrder (order : Checked) (a : Answer) (Kept : Type 0) : Type 0 where
  pub works : order ≡ Fine → a.refusal ≡ 0
  pub refused : (why : Refusal) → order ≡ Err why → (a ≡ refusing why) × Numbered why × Kept

-- nothing that could change was lent
abbrev pub Nothing : Type 0
Nothing = Unit {0}

-- a text that is not right, and the length of its longest start that some right text has
pub record WrongText (Right : List ℕ → Type 0) (s : List ℕ) (n : ℕ) : Type 0 where
  pub wrong : Right s → ⊥
  pub longest : Longest Right s n

-- Demand 1: a call is refused exactly where its order of checks gives a refusal, by that one, and then changes no buffer that was lent; else it works
pub record DemandOne : Type 0 where
  pub patterns : (p : List ℕ) (limit table : ℕ) → ByOrder (pattern_check p limit table) (of_checked (pattern_check p limit table)) Nothing
  pub trees : (t : List ℕ) (limit table : ℕ) → ByOrder (tree_check t limit table) (of_checked (tree_check t limit table)) Nothing
  pub documents : (d : Document) → ByOrder (whole_check d) (of_checked (whole_check d)) Nothing
  pub plain : (p t before after : List ℕ) (a : Answer) → Told of_checked (PlainRead p t before after) a → ByOrder (plain_check p t (length before)) a (after ≡ before)
  pub reads : (p : List ℕ) (d : Document) (before after : List ℕ) (a : Answer) → Told of_checked (Read p d before after) a →
      ByOrder (read_check p d (length before)) a (after ≡ before)
  pub deletes : (p : List ℕ) (d : Document) (before after : List ℕ) (a : Answer) → Told of_deleted (Delete p d before after) a → ByOrder (delete_check p d) a (after ≡ before)
  pub inserts : (p x : List ℕ) (d : Document) (rows₀ marks₀ ids₀ rows₁ marks₁ ids₁ : List ℕ) (a : Answer) → Told of_inserted (Insert p x d rows₀ marks₀ ids₀ rows₁ marks₁ ids₁) a →
      ByOrder (insert_check p x d) a ((rows₁ ≡ rows₀) × (marks₁ ≡ marks₀) × (ids₁ ≡ ids₀))
  pub compactions : (d : Document) (rows₀ marks₀ ids₀ rows₁ marks₁ ids₁ : List ℕ) (a : Answer) → Told of_compacted (Compact d rows₀ marks₀ ids₀ rows₁ marks₁ ids₁) a →
      ByOrder (whole_check d) a ((rows₁ ≡ rows₀) × (marks₁ ≡ marks₀) × (ids₁ ≡ ids₀))
  pub mends : (d : Document) (marks₀ list₀ marks₁ list₁ : List ℕ) (a : Answer) → Told of_mended (Mend d marks₀ list₀ marks₁ list₁) a →
      ByOrder (mend_check d (length list₀)) a ((marks₁ ≡ marks₀) × (list₁ ≡ list₀))
  pub verdicts : (r : List ℕ) (u : Update) (before after : List ℕ) (a : Answer) → Told of_verdict (NodeVerdict r u before after) a →
      ByOrder (verdict_check r u (length before)) a (after ≡ before)
  pub deeps : (r : List ℕ) (u : Update) (a : Answer) → Told of_deeply (DeepVerdict r u) a → ByOrder (deep_check r u) a Nothing
  pub evidences : (r : List ℕ) (u : Update) (t : List ℕ) (a : Answer) → Told of_evidence (Checks r u t) a → ByOrder (evidence_check r u t) a Nothing
  pub walks : (b : List ℕ) (n at : ℕ) → ByOrder (walk_check b n at) (of_stepped (step_at b n at)) Nothing
  pub plans : (b before after : List ℕ) (a : Answer) → Told of_planned (Plan b before after) a → ByOrder (plan_check b (length before)) a (after ≡ before)
  pub plans_in : (m : ℕ) (b before after : List ℕ) (a : Answer) → Told of_planned (PlanIn m b before after) a → ByOrder (plan_in_check m b (length before)) a (after ≡ before)
  pub lines_in : (s : List ℕ) (line : ℕ) (before after : List ℕ) (a : Answer) → Told of_parsed (ReadAs s line before after) a →
      ByOrder (line_check s line then output_check (length s / 4) (length before)) a (after ≡ before)
  pub lines_out : (ws before after : List ℕ) (a : Answer) → Told of_spelled (WrittenAs ws before after) a →
      ByOrder (output_check (4 * length ws) (length before)) a (after ≡ before)
  pub patterns_in : (l s before after : List ℕ) (a : Answer) → Told of_parsed (ReadText l s before after) a → ByOrder (read_text_check l s (length before)) a (after ≡ before)
  pub patterns_out : (l p before after : List ℕ) (a : Answer) → Told of_printed (WriteText l p before after) a → ByOrder (write_text_check l p (length before)) a (after ≡ before)
  pub trees_out : (t before after : List ℕ) (a : Answer) → Told of_printed (WriteTree t before after) a → ByOrder (write_tree_check t (length before)) a (after ≡ before)
  pub trees_in : (s before after : List ℕ) (a : Answer) → Told of_parsed (ReadTree s before after) a → ByOrder (read_tree_check s (length before)) a (after ≡ before)
  -- identities are refused exactly if their row is shorter than the used count, they are out of order, or not all are below the next one
  pub identities : (d : Document) → (identities_check d.ids d.tables.used d.next ≡ Fine) ↔ Identified d
  -- a mending is never refused by 12 for marks, but for the used count or for identities
  pub mends_never : (d : Document) (words : ℕ) (why : Refusal) → mend_check d words ≡ Err why → reason_number why.reason ≡ 12 →
      (used_check d.tables ≡ Err why) ⊎ (identities_check d.ids d.tables.used d.next ≡ Err why)
  -- a list is refused exactly if it is no list of names, by the first entry at which it breaks; a text of a pattern, and one of a tree, exactly if it is no
  -- right text, by the length of its longest start that some right text has
  pub lists : (l : List ℕ) → (list_check l ≡ Fine) ↔ NameList l
  pub lists_place : (l : List ℕ) (k : ℕ) → (list_check l ≡ refuse 14 8 k) ↔ BreaksAt l k
  pub texts : (s : List ℕ) → (text_check s ≡ Fine) ↔ RightText s
  pub texts_place : (s : List ℕ) (n : ℕ) → (text_check s ≡ refuse 14 7 n) ↔ WrongText RightText s n
  pub tags : (s : List ℕ) → (tags_check s ≡ Fine) ↔ RightTags s
  pub tags_place : (s : List ℕ) (n : ℕ) → (tags_check s ≡ refuse 14 7 n) ↔ WrongText RightTags s n
  -- a number names a mode exactly if it is 1 or 2
  pub modes : (m : ℕ) → (mode_check m ≡ Fine) ↔ ((m ≡ 1) ⊎ (m ≡ 2))
  -- printing is refused by 7 alone; else its bytes are fixed, and a refusal that they tell is one of the numbered ones
  pub prints : (s before after : List ℕ) (answer : Result ℕ Refusal) (h : PrintedAs s before after answer) →
      ByOrder (output_check (length h.text) (length before)) (of_printed answer) (after ≡ before)
  pub prints_one : (s before one two : List ℕ) (x y : Result ℕ Refusal) → PrintedAs s before one x → PrintedAs s before two y → (x ≡ y) × (one ≡ two)
  pub prints_refusal : (s : List ℕ) (line before : ℕ) (why : Refusal) → Lines s 0 0 [] [] (stopped line before why) → Numbered why
  -- a line that is refused as a frame, by neither 13 nor 10: what is wrong is wrong at the word that is named; the offset that is printed leads to it from the line's
  -- own first word, and no digit of it is cut; for 13 and 10 it is 0
  pub prints_fault : (l : List ℕ) (n : ℕ) (b : List ℕ) (why : Refusal) → take_check l n b ≡ Err why → (reason_number why.reason ≡ 13 → ⊥) → (reason_number why.reason ≡ 10 → ⊥) → LineFault l n b why
  pub prints_offset : (s : List ℕ) (line before : ℕ) (why : Refusal) → Lines s 0 0 [] [] (stopped line before why) → (reason_number why.reason ≡ 13 → ⊥) → (reason_number why.reason ≡ 10 → ⊥) →
      (why.place ≡ before + offset_in before why) × (offset_in before why ≤ digit_limit / 4)
  pub prints_none : (before : ℕ) (why : Refusal) → (reason_number why.reason ≡ 13) ⊎ (reason_number why.reason ≡ 10) → offset_in before why ≡ 0
  -- a mode line is refused by 9, where its second word is missing or a third is there, or by 8 at its second; it is line 1, and where it is accepted all others are one further down
  pub prints_mode : (s : List ℕ) (why : Refusal) → ModeLine s → mode_line_check (first_words s) ≡ Err why →
      Numbered why × ((why ≡ named 9 1) ⊎ ((why ≡ named 9 2) ⊎ (why ≡ named 8 1))) × Prints s (refusal_text 1 (reason_number why.reason) why.place)
  pub prints_below : (s : List ℕ) (line before : ℕ) (why : Refusal) → ModeLine s → mode_line_check (first_words s) ≡ Fine → Lines (behind_first s) 0 0 [] [] (stopped line before why) →
      Prints s (refusal_text (1 + line) (reason_number why.reason) (offset_in before why))

-- Demand 2: a verdict that is not refused says yes exactly if some finite document shows a difference, and then writes such a document,
-- of the fewest nodes possible and never more than the steps of both patterns together less one
pub record DemandTwo : Type 0 where
  pub exactly : (r : List ℕ) (u : Update) (before after : List ℕ) (answer : Result (Option ℕ) Refusal) → NodeVerdict r u before after answer → verdict_check r u (length before) ≡ Fine → (0 < witness_nodes answer) ↔ Conflict r u
  pub document : (r : List ℕ) (u : Update) (before after : List ℕ) (n : ℕ) → NodeVerdict r u before after (Ok (Some n)) → Witness r u (take (2 * n) after)
  pub size : (r : List ℕ) (u : Update) (before after : List ℕ) (n : ℕ) → NodeVerdict r u before after (Ok (Some n)) → nodes (take (2 * n) after) ≡ n
  pub fewest : (r : List ℕ) (u : Update) (before after : List ℕ) (n : ℕ) → NodeVerdict r u before after (Ok (Some n)) → (t : List ℕ) → Witness r u t → n ≤ nodes t
  pub bound : (r : List ℕ) (u : Update) (before after : List ℕ) (n : ℕ) → NodeVerdict r u before after (Ok (Some n)) → n ≤ steps r + steps (pattern u) - 1
  -- a smallest witness is always a chain
  pub chain : (r : List ℕ) (u : Update) → Bits16 r → UpdateBits u → deep_check r u ≡ Fine → (t : List ℕ) → SmallestWitness r u t → Chain t
  -- an identity is that of one node, before an update and after it
  pub one_node : (d : Document) → Identified d → (v w : ℕ) → v < d.tables.used → w < d.tables.used → identity d v ≡ identity d w → v ≡ w
  pub still_right : (u : Update) (d : Document) → Identified d → Identified (after-in u d)
  -- by identities: on every sound document the read's sets of identities differ exactly if its sets of nodes do, so a conflict by identities is a conflict
  pub differences : (r : List ℕ) (u : Update) → Bits16 r → UpdateBits u → deep_check r u ≡ Fine → (d : Document) → SoundDocument d → DiffersIn r u d ↔ Differs r u d.tables
  pub by_identities : (r : List ℕ) (u : Update) → Bits16 r → UpdateBits u → deep_check r u ≡ Fine → ConflictIn r u ↔ Conflict r u
  -- what a difference is made of: on every sound document selection is by embeddings, and so is what an update does; a delete leaves every identity
  pub selection : (p : List ℕ) (d : Doc) → Pattern p → Sound d → (v : ℕ) → (selected p d v ≡ true) ↔ Selects p d v
  pub deletes : (p : List ℕ) (d : Doc) → Pattern p → Sound d → DeletedBy p d (after-update (delete p) d)
  pub inserts : (p x : List ℕ) (d : Document) → Pattern p → Sound (bare x) → Sound d.tables →
      (n : ℕ) × InsertedBy p x d.tables (after-update (insert p x) d.tables) n × NamedBy x d (after-in (insert p x) d) n
  pub tables : (u : Update) (d : Document) → (after-in u d).tables ≡ after-update u d.tables
  pub names_stay : (p : List ℕ) (d : Document) → ((after-in (delete p) d).ids ≡ d.ids) × ((after-in (delete p) d).next ≡ d.next)
  -- reading and updating a given document follow the same definitions, and a document that meets no refusal is sound
  pub sound : (d : Document) → Bits16 d.tables.rows → whole_check d ≡ Fine → SoundDocument d
  pub reading : (p : List ℕ) (d : Document) (before after : List ℕ) → Bits16 d.tables.rows → Read p d before after Fine → Row (Selects p d.tables) d.tables.used before after
  pub deleting : (p : List ℕ) (d : Document) (marks : List ℕ) (n : ℕ) → Bits16 d.tables.rows → Delete p d d.tables.marks marks (Ok n) →
      DeletedBy p d.tables (with_marks d marks).tables
  pub inserting : (p x : List ℕ) (d : Document) (rows marks ids : List ℕ) (n used next : ℕ) → Bits16 d.tables.rows → Bits16 x →
      Insert p x d d.tables.rows d.tables.marks d.ids rows marks ids (Ok (record { copies = n; used = used; next = next })) →
      InsertedBy p x d.tables (doc rows marks used) n × NamedBy x d (document_of rows marks used ids next) n
  -- by the very functions of which a conflict speaks; present before equals present after plus the number that a delete tells
  pub same_delete : (p : List ℕ) (d : Document) (marks : List ℕ) (n : ℕ) → Delete p d d.tables.marks marks (Ok n) → with_marks d marks ≡ after-in (delete p) d
  pub same_insert : (p x : List ℕ) (d : Document) (rows marks ids : List ℕ) (n used next : ℕ) →
      Insert p x d d.tables.rows d.tables.marks d.ids rows marks ids (Ok (record { copies = n; used = used; next = next })) → document_of rows marks used ids next ≡ after-in (insert p x) d
  pub removals : (p : List ℕ) (d : Document) (marks : List ℕ) (n : ℕ) → Delete p d d.tables.marks marks (Ok n) →
      count (present d.tables) d.tables.used ≡ count (present (with_marks d marks).tables) d.tables.used + n

-- an order that keeps the updates in sequence and runs each read after the update of its slot in the plan and before every update that follows it
pub record Keeps (plan : List ℕ) (b : List (Frame (List ℕ) Update)) (o : List ℕ) : Type 0 where
  -- every frame stands in it, once, and nothing else does
  pub every : (k : ℕ) → k < length b → Stands o k
  pub once : {p q k : ℕ} → At o p k → At o q k → p ≡ q
  pub only : {p k : ℕ} → At o p k → k < length b
  -- the updates in sequence; each read after the update of its slot, and before every update that follows it
  pub in_sequence : {i j : ℕ} {u w : Update} → At b i (update u) → At b j (update w) → i < j → Before o i j
  pub after_slot : {i j : ℕ} {r : List ℕ} {u : Update} → At b i (read r) → At b j (update u) → number b j ≡ get_or plan i 0 → Before o j i
  pub before_later : {i j : ℕ} {r : List ℕ} {u : Update} → At b i (read r) → At b j (update u) → i < j → Before o i j

-- a batch and a document that meet no refusal; their words have 16 bits
pub record Start (b : List ℕ) (d : Document) : Type 0 where
  pub words : Bits16 b
  pub batch : batch_check b ≡ Fine
  pub rows : Bits16 d.tables.rows
  pub document : whole_check d ≡ Fine

-- an example: delete a/b, then read a/c
abbrev pub example : List ℕ
example = 3 ∷ 2 ∷ 0 ∷ 1 ∷ 1 ∷ 2 ∷ 1 ∷ 2 ∷ 0 ∷ 1 ∷ 1 ∷ 3 ∷ []

-- a document for it: b under a, nothing removed, of identities 4 and 7, the next one 9
abbrev pub b_under_a : Document
b_under_a = document_of (0 ∷ 1 ∷ 0 ∷ 2 ∷ []) (0 ∷ 0 ∷ []) 2 (4 ∷ 7 ∷ []) 9

-- another: delete a/b, then read a
abbrev pub below_read : List ℕ
below_read = 3 ∷ 2 ∷ 0 ∷ 1 ∷ 1 ∷ 2 ∷ 1 ∷ 1 ∷ 0 ∷ 1 ∷ []

abbrev pub only_root : List ℕ
only_root = 0 ∷ 1 ∷ []

-- Demand 3, by the relation from which slots are taken and by what is the same to a read: the plan of an accepted batch gives each read its slot. Take any document
-- that meets no refusal, a run of the batch by its calls in any order that keeps the plan, and one in the batch's own order: they give the same, and no call is refused
-- but an insert for identities or for room
pub record DemandThree (Related : List ℕ → Update → Type 0) (Alike : List ℕ → Document → Document → Type 0) : Type 0 where
  pub slots : (b before plan : List ℕ) (n k : ℕ) (r : List ℕ) → PlanOf Related b before plan (Ok n) → At (batch_of b) k (read r) → SlotIs Related (batch_of b) k r (get_or plan k 0)
  pub orders : (b before plan : List ℕ) (n : ℕ) → PlanOf Related b before plan (Ok n) → (d : Document) → Start b d → (o : List ℕ) → Keeps plan (batch_of b) o →
      (one other : List Called) (last end : Document) → Run (batch_of b) o d one last → Run (batch_of b) (own (batch_of b)) d other end → SameRuns Alike (batch_of b) one last other end
  pub works : (b : List ℕ) (d : Document) → Start b d → (o : List ℕ) (calls : List Called) (last : Document) → Run (batch_of b) o d calls last →
      (i k : ℕ) (e : Document) (answer : Reply) → At calls i (called k e answer) → (f : Frame (List ℕ) Update) → At (batch_of b) k f → Works f answer
  -- an insert is refused for identities exactly where the document that it met has too few to give; and for room exactly where it has enough of them and the copies do not fit
  pub identities : (b : List ℕ) (d : Document) → Start b d → (o : List ℕ) (calls : List Called) (last : Document) → Run (batch_of b) o d calls last →
      (i k : ℕ) (e : Document) (answer : Reply) → At calls i (called k e answer) → (p x : List ℕ) → At (batch_of b) k (update (insert p x)) → NoIdentities answer ↔ (nameable p x e ≡ false)
  pub room : (b : List ℕ) (d : Document) → Start b d → (o : List ℕ) (calls : List Called) (last : Document) → Run (batch_of b) o d calls last →
      (i k : ℕ) (e : Document) (answer : Reply) → At calls i (called k e answer) → (p x : List ℕ) → At (batch_of b) k (update (insert p x)) →
      NoRoom answer ↔ ((nameable p x e ≡ true) × (fits_in p x e ≡ false))
  -- there are such orders and runs: the batch's own order keeps its plan, and so does one in which the example's read has moved; in every order of its frames there is a run, with a call for each
  pub own_keeps : (b before plan : List ℕ) (n : ℕ) → Bits16 b → PlanOf Related b before plan (Ok n) → Keeps plan (batch_of b) (own (batch_of b))
  pub starts : (b : List ℕ) (d : Document) → Bits16 b → batch_check b ≡ Fine → Bits16 d.tables.rows → whole_check d ≡ Fine → Start b d
  pub start : Start example b_under_a
  pub moved : PlanOf Related example (0 ∷ 0 ∷ []) (1 ∷ 0 ∷ []) (Ok 2) × Keeps (1 ∷ 0 ∷ []) (batch_of example) (1 ∷ 0 ∷ [])
  pub runs : (b : List (Frame (List ℕ) Update)) (o : List ℕ) (d : Document) → ((p k : ℕ) → At o p k → k < length b) → Runs b o d
  pub calls : (b : List (Frame (List ℕ) Update)) (o : List ℕ) (d last : Document) (calls : List Called) → Run b o d calls last → (i k : ℕ) → At o i k → Has calls i k

-- Demand 3 in both modes: node, where slots are taken from node conflicts and each read gives the same identities; and deep, which a plan that names no mode is in, where
-- they are taken from the deep verdict and each read gives the same identities, and the same present ones below each
pub record InBothModes : Type 0 where
  pub node : DemandThree Conflict SameIdentities
  pub deep : DemandThree Deep SameIdentitiesBelow
  -- a batch contains no compaction, so they have the same node numbers too
  pub node_numbers : DemandThree Conflict (λ r d e. SameNodes r d.tables e.tables)
  pub deep_numbers : DemandThree Deep (λ r d e. SameBelow r d.tables e.tables)
  -- the plan that is named by 1 is the node plan, and the one that is named by 2 the deep plan, which is given where none is named
  pub named_node : (b before after : List ℕ) (answer : Result ℕ Refusal) → PlanIn 1 b before after answer ↔ PlanOf Conflict b before after answer
  pub named_deep : (b before after : List ℕ) (answer : Result ℕ Refusal) → PlanIn 2 b before after answer ↔ Plan b before after answer
  -- in lines 00040001 names node, and 00040002 deep
  pub line_node : ModeLine node_line × (mode_line_check (first_words node_line) ≡ Fine) × (mode_of (get_or (first_words node_line) 1 0) ≡ mode.Node)
  pub line_deep : ModeLine deep_line × (mode_line_check (first_words deep_line) ≡ Fine) × (mode_of (get_or (first_words deep_line) 1 0) ≡ mode.Deep)
  -- a read's deep slot is never less than its node slot; what is the same in deep mode is the same in node mode; but not the other way round
  pub deeper : (b : List (Frame (List ℕ) Update)) (k : ℕ) (r : List ℕ) (v w : ℕ) → SlotIs Conflict b k r v → SlotIs Deep b k r w → v ≤ w
  pub also_nodes : (r : List ℕ) (d e : Document) → SameIdentitiesBelow r d e → SameIdentities r d e
  pub not_nodes : ((r : List ℕ) (d e : Document) → SoundDocument d → SoundDocument e → SameIdentities r d e → SameIdentitiesBelow r d e) → ⊥
  -- nor is a node slot enough for deep mode: read a, after a delete of a/b
  pub slots_differ : SlotIs Conflict (batch_of below_read) 1 only_root 0 × SlotIs Deep (batch_of below_read) 1 only_root 1

-- Besides: what else the documents say of the calls
pub record Besides : Type 0 where
  -- the deep verdict: yes exactly if there is a node conflict or, in some tree, an update point at or below a node that the read selects
  pub deep_yes : (r : List ℕ) (u : Update) → DeepVerdict r u (Ok true) → Deep r u
  pub deep_no : (r : List ℕ) (u : Update) → DeepVerdict r u (Ok false) → Deep r u → ⊥
  -- so it is yes where some tree has an update point at the read node itself; of a delete, that tree is a witness of a node conflict
  pub deep_at : (r : List ℕ) (u : Update) (answer : Result Bool Refusal) → DeepVerdict r u answer → deep_check r u ≡ Fine →
      (t : List ℕ) → Sound (bare t) → (v : ℕ) → Selects r (bare t) v → Selects (pattern u) (bare t) v → answer ≡ Ok true
  pub deep_at_delete : (r p : List ℕ) → deep_check r (delete p) ≡ Fine → (t : List ℕ) → Sound (bare t) → (v : ℕ) → Selects r (bare t) v → Selects p (bare t) v → Witness r (delete p) t
  -- a proposed tree that is not refused: the answer has a node other than 0 exactly if the read's set of nodes on the tree differs before and after the update, the difference of
  -- which a conflict speaks; no smaller node is lost or gained; a delete gains none; an insert loses none, and what it gains is new
  pub evidence_exactly : (r : List ℕ) (u : Update) (t : List ℕ) (answer : Result (Option ℕ) Refusal) → Bits16 t → Checks r u t answer → evidence_check r u t ≡ Fine → (0 < shown_node answer) ↔ Differs r u (bare t)
  pub evidence_first : (r : List ℕ) (u : Update) (t : List ℕ) (v w : ℕ) → Checks r u t (Ok (Some v)) → w < v → (Lost r u (bare t) w → ⊥) × (Gained r u (bare t) w → ⊥)
  pub delete_gains_none : (r p t : List ℕ) → Bits16 t → evidence_check r (delete p) t ≡ Fine → (v : ℕ) → Gained r (delete p) (bare t) v → ⊥
  pub insert_loses_none : (r p x t : List ℕ) → Bits16 x → Bits16 t → evidence_check r (insert p x) t ≡ Fine → (v : ℕ) → Lost r (insert p x) (bare t) v → ⊥
  pub insert_gains_new : (r p x t : List ℕ) → Bits16 x → Bits16 t → evidence_check r (insert p x) t ≡ Fine → (v : ℕ) → Gained r (insert p x) (bare t) v → nodes t ≤ v
  -- every witness that the verdict writes is accepted; where any tree is accepted, the verdict says conflict, with a witness of no more nodes
  pub evidence_own : (r : List ℕ) (u : Update) (before after : List ℕ) (n : ℕ) (answer : Result (Option ℕ) Refusal) → NodeVerdict r u before after (Ok (Some n)) →
      Checks r u (take (2 * n) after) answer → (v : ℕ) × (answer ≡ Ok (Some v))
  pub evidence_conflict : (r : List ℕ) (u : Update) (t : List ℕ) (v : ℕ) (before after : List ℕ) (answer : Result (Option ℕ) Refusal) → Checks r u t (Ok (Some v)) →
      NodeVerdict r u before after answer → verdict_check r u (length before) ≡ Fine → (n : ℕ) × (answer ≡ Ok (Some n)) × (n ≤ nodes t)
  -- an update's plan word is its number among the updates, from 1; batches that agree on a read and the updates before it give it the same slot
  pub numbers : (m : Mode) (b before plan : List ℕ) (n k : ℕ) (u : Update) → PlanOf (relation_of m) b before plan (Ok n) → At (batch_of b) k (update u) → get_or plan k 0 ≡ number (batch_of b) k
  pub same_slot : (m : Mode) (b c : List ℕ) → Bits16 b → Bits16 c → batch_check b ≡ Fine → batch_check c ≡ Fine → (k l : ℕ) (r : List ℕ) → At (batch_of b) k (read r) → At (batch_of c) l (read r) →
      earlier (batch_of b) k ≡ earlier (batch_of c) l → (v w : ℕ) → SlotIs (relation_of m) (batch_of b) k r v → SlotIs (relation_of m) (batch_of c) l r w → v ≡ w
  -- the two readings agree at every node
  pub readings : (p t marks ids : List ℕ) (next : ℕ) → Bits16 t → ((v : ℕ) → v < nodes t → get_or marks v 0 ≡ 0) → (before row before' plain : List ℕ) →
      Read p (document_of t marks (nodes t) ids next) before row Fine → PlainRead p t before' plain Fine → (v : ℕ) → v < nodes t → get_or row v 0 ≡ get_or plain v 0
  -- the walker stays at a bad frame and at its end
  pub walker_refused : (b : List ℕ) (n at : ℕ) (why : Refusal) → step_at b n at ≡ Err why → step_at b (number_after b n at) (place_after b n at) ≡ Err why
  pub walker_over : (b : List ℕ) (n at : ℕ) → step_at b n at ≡ Ok None → step_at b (number_after b n at) (place_after b n at) ≡ Ok None
  -- a walk from the front, its calls counted from 0: of an accepted batch call k gives frame k as its part of the batch; behind the last frame none is left, and the parts are the whole batch
  pub walk_frames : (b : List ℕ) → batch_check b ≡ Fine → (k : ℕ) → k < length (batch_of b) → GivesFrame b k
  pub walk_over : (b : List ℕ) → batch_check b ≡ Fine → (k : ℕ) → length (batch_of b) ≤ k → (call_gives b k ≡ Ok None) × (first_parts b k ≡ b)
  -- of a refused one each frame before the bad one, and from there on its refusal at every call: what is wrong is wrong in that frame, at the word that the refusal's
  -- place names by its offset from the start of the batch; of too many words 10 at every call, at the first word too many
  pub walk_stops : (b : List ℕ) (why : Refusal) → batch_check b ≡ Err why → length b ≤ batch_limit → StopsAt b why
  pub walk_long : (b : List ℕ) → batch_limit < length b → (batch_check b ≡ refuse 10 6 batch_limit) × ((k : ℕ) → call_gives b k ≡ Err (named 10 batch_limit))
  -- before every call the parts so far are the batch up to its place
  pub walk_parts : (b : List ℕ) (k : ℕ) → first_parts b k ≡ take (call_place b k) b
  -- patterns as text: a list has one list of names, and their numbers are their places in it; a right text has one list of steps, and means their pattern; what is written reads back as the same pattern, and what was read is
  -- written back unchanged, with the same list; neither is refused where there is room
  pub list_names : (l : List ℕ) (list : NameList l) → lines l ≡ list.names
  pub text_steps : (s : List ℕ) (right : RightText s) → steps_of s ≡ right.steps
  pub written_reads : (l p before text : List ℕ) (n : ℕ) → WriteText l p before text (Ok n) →
      (words after : List ℕ) (answer : Result ℕ Refusal) → ReadText l (take n text) words after answer → length p ≤ length words → (answer ≡ Ok (length p)) × (take (length p) after ≡ p)
  pub read_writes : (l s words pattern : List ℕ) (n : ℕ) → ReadText l s words pattern (Ok n) →
      (before after : List ℕ) (answer : Result ℕ Refusal) → WriteText l (take n pattern) before after answer → length s ≤ length before → (answer ≡ Ok (length s)) × (take (length s) after ≡ s)
  -- trees as tags: each node is written the same way with its own children inside it, and the nodes can be written so in one way only; a label is written in
  -- decimal, and in no other way
  pub tags_children : (t : List ℕ) (v c : ℕ) → (child_of t v c ≡ true) ↔ Child t v c
  pub tags_each : (t : List ℕ) → Sound (bare t) → (v : ℕ) → v < nodes t → tags_of t v ≡ element_of (tag t v) (tags_of t) (children t v)
  pub tags_only : (t : List ℕ) → Sound (bare t) → (text : ℕ → List ℕ) → ((v : ℕ) → v < nodes t → text v ≡ element_of (tag t v) text (children t v)) →
      (v : ℕ) → v < nodes t → text v ≡ tags_of t v
  pub tags_decimal : (n : ℕ) → 0 < n → (s : List ℕ) → (s ≡ decimal n) ↔ Decimal n s
  -- a text is as long as its nodes, added up; 17 bytes a node less 8 are always enough, and for a tree of each size none of them can be spared
  pub tags_bytes : (t : List ℕ) → Sound (bare t) → length (tree_text t) ≡ tree_bytes t
  pub tags_enough : (t before after : List ℕ) (why : Refusal) → Bits16 t → tree_check t tree_limit 5 ≡ Fine → 17 * nodes t ≤ length before + 8 → WriteTree t before after (Err why) → ⊥
  pub tags_reached : (n : ℕ) → 0 < n → (t : List ℕ) × Sound (bare t) × (nodes t ≡ n) × (tree_bytes t + 8 ≡ 17 * n)
  -- so every witness has a text
  pub witness_text : (r : List ℕ) (u : Update) (before after : List ℕ) (n : ℕ) → NodeVerdict r u before after (Ok (Some n)) →
      (room text : List ℕ) (answer : Result ℕ Refusal) → WriteTree (take (2 * n) after) room text answer → 17 * n ≤ length room + 8 → answer ≡ Ok (tree_bytes (take (2 * n) after))
  -- trees from tags: what is read is the tree that the text means, in whichever way the text is seen as elements; its nodes are numbered in the order of their
  -- start tags; it is sound, and no call refuses it as a tree
  pub read_means : (s words tree : List ℕ) (n : ℕ) → ReadTree s words tree (Ok n) → (right : RightTags s) → take n tree ≡ tree_of right.root
  pub read_in_order : (s words tree : List ℕ) (n : ℕ) → ReadTree s words tree (Ok n) → InOrder (take n tree)
  pub read_sound : (s words tree : List ℕ) (n : ℕ) → ReadTree s words tree (Ok n) → Sound (bare (take n tree)) × ((table : ℕ) → tree_check (take n tree) tree_limit table ≡ Fine)
  -- written again, it gives the same tags with empty pairs shortened, in no more bytes
  pub read_again : (s words tree : List ℕ) (n : ℕ) → ReadTree s words tree (Ok n) → (right : RightTags s) → (before after : List ℕ) (answer : Result ℕ Refusal) →
      WriteTree (take n tree) before after answer → length s ≤ length before →
      (answer ≡ Ok (length (written (shortened right.root)))) × (take (length (written (shortened right.root))) after ≡ written (shortened right.root))
  -- a tree that is written reads back equal up to the numbering, node k as the one whose start tag is the k-th, and equal outright where it was numbered in that
  -- order; it is not refused where there is room; and trees that are equal up to the numbering have one text
  pub written_back : (t before text : List ℕ) (n : ℕ) → Bits16 t → WriteTree t before text (Ok n) → (words tree : List ℕ) (answer : Result ℕ Refusal) →
      ReadTree (take n text) words tree answer → length t ≤ length words → (answer ≡ Ok (length t)) × Renumbered t (take (length t) tree) (λ k. get_or (starts t) k 0)
  pub written_same : (t before text : List ℕ) (n : ℕ) → Bits16 t → WriteTree t before text (Ok n) → (words tree : List ℕ) (answer : Result ℕ Refusal) →
      ReadTree (take n text) words tree answer → length t ≤ length words → InOrder t → take (length t) tree ≡ t
  pub renumbered_text : (t u : List ℕ) → Sound (bare t) → Sound (bare u) → (old : ℕ → ℕ) → Renumbered t u old → tree_text u ≡ tree_text t
  -- with no conflict every output word stays, and behind any result all stays: behind a witness, a plan, marks, identities, words and bytes
  pub clear_stays : (r : List ℕ) (u : Update) (before after : List ℕ) → NodeVerdict r u before after (Ok None) → after ≡ before
  pub witness_behind : (r : List ℕ) (u : Update) (before after : List ℕ) (n : ℕ) → NodeVerdict r u before after (Ok (Some n)) →
      (length after ≡ length before) × (drop (2 * n) after ≡ drop (2 * n) before)
  pub marks_behind : (p : List ℕ) (d : Document) (marks : List ℕ) (n : ℕ) → Delete p d d.tables.marks marks (Ok n) →
      (length marks ≡ length d.tables.marks) × ((v : ℕ) → d.tables.used ≤ v → get_or marks v 0 ≡ mark d.tables v)
  pub tables_behind : (p x : List ℕ) (d : Document) (rows marks ids : List ℕ) (n used next : ℕ) →
      Insert p x d d.tables.rows d.tables.marks d.ids rows marks ids (Ok (record { copies = n; used = used; next = next })) →
      (length rows ≡ length d.tables.rows) × (length marks ≡ length d.tables.marks) ×
      ((i : ℕ) → 2 * used ≤ i → get_or rows i 0 ≡ get_or d.tables.rows i 0) × ((v : ℕ) → used ≤ v → get_or marks v 0 ≡ mark d.tables v)
  pub ids_behind : (p x : List ℕ) (d : Document) (rows marks ids : List ℕ) (n used next : ℕ) →
      Insert p x d d.tables.rows d.tables.marks d.ids rows marks ids (Ok (record { copies = n; used = used; next = next })) →
      (length ids ≡ length d.ids) × ((v : ℕ) → used ≤ v → get_or ids v 0 ≡ identity d v)
  pub plan_behind : (m : Mode) (b before after : List ℕ) (n : ℕ) → PlanOf (relation_of m) b before after (Ok n) → (length after ≡ length before) × ((i : ℕ) → n ≤ i → get_or after i 0 ≡ get_or before i 0)
  pub words_behind : (s : List ℕ) (line : ℕ) (before after : List ℕ) (n : ℕ) → ReadAs s line before after (Ok n) → drop n after ≡ drop n before
  pub digits_behind : (ws before after : List ℕ) (n : ℕ) → WrittenAs ws before after (Ok n) → drop n after ≡ drop n before
  pub bytes_behind : (s before after : List ℕ) (n : ℕ) → PrintedAs s before after (Ok n) → drop n after ≡ drop n before
  pub pattern_behind : (l s before after : List ℕ) (n : ℕ) → ReadText l s before after (Ok n) → drop n after ≡ drop n before
  pub text_behind : (l p before after : List ℕ) (n : ℕ) → WriteText l p before after (Ok n) → drop n after ≡ drop n before
  pub tags_behind : (t before after : List ℕ) (n : ℕ) → WriteTree t before after (Ok n) → drop n after ≡ drop n before
  pub tree_behind : (s before after : List ℕ) (n : ℕ) → ReadTree s before after (Ok n) → drop n after ≡ drop n before
  -- a mode line prints nothing of its own: where all lines behind it are taken, their plan in its mode is what is printed without it
  pub mode_prints_none : (m : Mode) (s text b kinds : List ℕ) → Lines s 0 0 [] [] (taken b kinds) → PrintsFrames m 1 s text → PrintsFrames m 0 s text
  -- the program's two numbers: so many bytes of output are always enough, and behind so many bytes of input nothing changes what is printed
  pub output_enough : (s before after : List ℕ) (why : Refusal) → PrintedAs s before after (Err why) → printed_most ≤ length before → ⊥
  pub input_enough : (s text : List ℕ) → Prints s text ↔ Prints (take input_most s) text
  -- P1 to P15
  pub examples : Marked
