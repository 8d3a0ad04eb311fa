-- What document 02 asks to be shown over several calls, beside the demands; by the names of the demands' page.
--
--   EitherOrder   deletes one after another, in any order
--   RoomBack      a compaction: what it leaves, and that later calls go on as they would have without it
--   OtherLimits   installations with other limits: what is kept, and what an older one answers to a longer frame
--   NeverSafer    reads and updates that are made wider: what conflicts still conflicts
--   MarksMended   a mending: what it leaves, that it is the largest sound set, and what a second one does
use Rattle.std.specs.Prelude.{◌+◌, ◌*◌, ◌<◌, ◌≤◌, ◌≡◌, ◌∷◌, ◌++◌, ◌⊎◌, ◌↔◌, ◌≢◌}
use Rattle.demands.specs.Demands.Names.{ℕ, suc, true, List, [], map, Perm, length, get_or, set, tree_limit, digit_limit, axis, nodes, Bits16}
use Rattle.demands.specs.Demands.Names.{Pattern, Doc, present, Sound, Refusal, Fine, Result, Ok, Err, Option, Some, None, Bool, false, Compacted, reason_number, refuse, tree_check, count, Selects, copies, Document, document_of, SoundDocument, whole_check}
use Rattle.demands.specs.Demands.Names.{room_of, fits_in, dropped, compacted, SameIdentitiesBelow, delete_check, delete_refusal, Delete, Compact, AllDeletedBy, Compacts}
use Rattle.demands.specs.Demands.Names.{ClosedBy, Update, delete, insert, Differs, Witness, Conflict, Smallest, Deep, verdict_check, deep_check, NodeVerdict, DeepVerdict}
use Rattle.demands.specs.Demands.Names.{Checks, At, number, batch_of, batch_check, plan_check, relation_of, Mode, PlanBy, PlanOf, Reply, Called, called, Run, NoRoom}
use Rattle.demands.specs.Demands.Names.{with_marks, Deletes, total, CalledInTurn, abc, a/b, a//c, SameBatch, Roomy, Refuses, Installation, ours, before_longer, Within, longest, frame_in}
use Rattle.demands.specs.Demands.Names.{take_in, batch_in, plan_in, pair_in, verdict_in, to_frame, to_line, read_of_65, frame_check, frame_of, answered, Extent, WiderPattern, WiderTree, Wider}
use Rattle.demands.specs.Demands.Names.{UpdateBits, Frame, read, update, WiderUpdate, Accepted, Widened, WiderFrames, WidenedRead, OnlyWider, a/c, a/any, a//d, c_alone, c_and_d, take_check}
use Rattle.demands.specs.Demands.Names.{shape_check, identities_check, Mend, mend_check, Mends, MendedBy, SoundSet, LargestSound, undone, redone}
use Rattle.demands.specs.Demands.{Start, Keeps, example, only_root}

-- Deletes in either order: on a document that meets no refusal, each called by its promise on the marks that the one before it left
pub record EitherOrder : Type 0 where
  -- two accepted deletes: neither second one is refused; in either order they leave the same marks, and the two counts together are the same
  pub second : (p q : List ℕ) (d : Document) → Bits16 d.tables.rows → delete_check p d ≡ Fine → delete_check q d ≡ Fine → (x y : Result ℕ Refusal) (last : List ℕ) →
      Deletes (p ∷ q ∷ []) d (x ∷ y ∷ []) last → delete_refusal y ≡ Fine
  pub marks : (p q : List ℕ) (d : Document) → Bits16 d.tables.rows → delete_check p d ≡ Fine → delete_check q d ≡ Fine → (one other : List (Result ℕ Refusal)) (last end : List ℕ) →
      Deletes (p ∷ q ∷ []) d one last → Deletes (q ∷ p ∷ []) d other end → last ≡ end
  pub counts : (p q : List ℕ) (d : Document) → Bits16 d.tables.rows → (i j k l : ℕ) (last end : List ℕ) →
      Deletes (p ∷ q ∷ []) d (Ok i ∷ Ok j ∷ []) last → Deletes (q ∷ p ∷ []) d (Ok k ∷ Ok l ∷ []) end → i + j ≡ k + l
  -- the same delete twice leaves what it leaves once, and reports 0 the second time; one that was made before, whatever came between, changes nothing and reports 0
  pub twice : (p : List ℕ) (d : Document) → Bits16 d.tables.rows → (n : ℕ) (answers : List (Result ℕ Refusal)) (once last : List ℕ) →
      Deletes (p ∷ []) d (Ok n ∷ []) once → Deletes (p ∷ p ∷ []) d answers last → (last ≡ once) × (answers ≡ Ok n ∷ Ok 0 ∷ [])
  pub made_before : (ps : List (List ℕ)) (d : Document) → Bits16 d.tables.rows → (answers : List (Result ℕ Refusal)) (last : List ℕ) → Deletes ps d answers last →
      (k : ℕ) (p : List ℕ) → At ps k p → delete_check p d ≡ Fine →
      (after : List ℕ) (answer : Result ℕ Refusal) → Delete p (with_marks d last) last after answer → (after ≡ last) × (answer ≡ Ok 0)
  -- each count alone need not be the same: on the chain a, b, c a delete at a/b and then one at a//c remove 2 nodes and 0, the other way round 1 and 1; so a law that
  -- says it of all that `counts` speaks of is wrong
  pub above_first : Deletes (a/b ∷ a//c ∷ []) abc (Ok 2 ∷ Ok 0 ∷ []) (0 ∷ 1 ∷ 1 ∷ [])
  pub below_first : Deletes (a//c ∷ a/b ∷ []) abc (Ok 1 ∷ Ok 1 ∷ []) (0 ∷ 1 ∷ 1 ∷ [])
  pub not_each : ((p q : List ℕ) (d : Document) → Bits16 d.tables.rows → (i j k l : ℕ) (last end : List ℕ) →
      Deletes (p ∷ q ∷ []) d (Ok i ∷ Ok j ∷ []) last → Deletes (q ∷ p ∷ []) d (Ok k ∷ Ok l ∷ []) end → i ≡ l) → ⊥
  -- any number of deletes, refused ones among them: each is refused as it is on the first document; what is removed is exactly what one that is accepted covers
  -- there; present before equals present after the last plus the counts together; so in every order they leave the same marks and remove the same number together
  pub refusals : (ps : List (List ℕ)) (d : Document) → Bits16 d.tables.rows → whole_check d ≡ Fine → (answers : List (Result ℕ Refusal)) (last : List ℕ) → Deletes ps d answers last →
      map delete_refusal answers ≡ map (λ p. delete_check p d) ps
  pub removed : (ps : List (List ℕ)) (d : Document) → Bits16 d.tables.rows → whole_check d ≡ Fine → (answers : List (Result ℕ Refusal)) (last : List ℕ) → Deletes ps d answers last →
      AllDeletedBy ps d (with_marks d last).tables
  pub removals : (ps : List (List ℕ)) (d : Document) (answers : List (Result ℕ Refusal)) (last : List ℕ) → Deletes ps d answers last →
      count (present d.tables) d.tables.used ≡ count (present (with_marks d last).tables) d.tables.used + total answers
  pub orders : (ps qs : List (List ℕ)) → Perm ps qs → (d : Document) → Bits16 d.tables.rows → whole_check d ≡ Fine → (one other : List (Result ℕ Refusal)) (last end : List ℕ) →
      Deletes ps d one last → Deletes qs d other end → (last ≡ end) × (total one ≡ total other)
  -- there are such calls
  pub calls : (ps : List (List ℕ)) (d : Document) → CalledInTurn ps d

-- Room back: a compaction that is not refused drops the removed nodes of d and leaves e
pub record RoomBack : Type 0 where
  -- the rest is closed up in order, with parents corrected and each identity left with its node; this settles it, and all that is dropped was removed
  pub closed : (d e : Document) (n : ℕ) → Compacts d e n → ClosedBy d e
  pub document : (d e : Document) (n : ℕ) → Compacts d e n → (e ≡ compacted d) × (n ≡ dropped d.tables)
  -- the room gained is the number dropped: so much less is used of a room that stays, and an insert fits exactly if before it lacked no more
  pub gains : (d e : Document) (n : ℕ) → Compacts d e n → (e.tables.used + n ≡ d.tables.used) × (room_of e ≡ room_of d)
  pub fits : (d e : Document) (n : ℕ) → Bits16 d.tables.rows → Compacts d e n → (p x : List ℕ) →
      (fits_in p x e ≡ true) ↔ (d.tables.used + copies p d.tables * nodes x ≤ room_of d + n)
  -- what is left is sound and meets no refusal
  pub sound : (d e : Document) (n : ℕ) → Bits16 d.tables.rows → Compacts d e n → SoundDocument e × (whole_check e ≡ Fine)
  -- every read selects the same identities before and after, and the same present ones below each
  pub reads : (d e : Document) (n : ℕ) → Bits16 d.tables.rows → Compacts d e n → (r : List ℕ) → Pattern r → SameIdentitiesBelow r d e
  -- a second compaction drops none and leaves every row
  pub twice : (d e : Document) (n : ℕ) → Bits16 d.tables.rows → Compacts d e n → (rows marks ids : List ℕ) (answer : Result Compacted Refusal) →
      Compact e e.tables.rows e.tables.marks e.ids rows marks ids answer →
      (answer ≡ Ok (record { used = e.tables.used; dropped = 0 })) × (rows ≡ e.tables.rows) × (marks ≡ e.tables.marks) × (ids ≡ e.ids)
  -- between two batches: take a run of a batch on d in which no insert is refused for room, and one in the same order on e. At each place both call the same frame, on
  -- documents that hold the same things by identity, and answer the same but for the numbers of nodes: used counts are n apart
  pub batches : (b : List ℕ) (d e : Document) (n : ℕ) → Start b d → Compacts d e n → (o : List ℕ) (one other : List Called) (last end : Document) →
      Run (batch_of b) o d one last → Run (batch_of b) o e other end → Roomy one → SameBatch n one other last end
  -- and a compaction never makes an insert be refused for room: where a call on e is, one on d was no later
  pub never_short : (b : List ℕ) (d e : Document) (n : ℕ) → Start b d → Compacts d e n → (o : List ℕ) (one other : List Called) (last end : Document) →
      Run (batch_of b) o d one last → Run (batch_of b) o e other end → (i k : ℕ) (met : Document) (answer : Reply) → At other i (called k met answer) → NoRoom answer → Refuses one i
  -- there are such calls, and they do change something: of a, its removed child b with c below it, and its child d with e below it, a, d and e are left
  pub calls : (d : Document) → whole_check d ≡ Fine → (e : Document) × (n : ℕ) × Compacts d e n
  pub example : Compacts (document_of (0 ∷ 1 ∷ 0 ∷ 2 ∷ 1 ∷ 3 ∷ 0 ∷ 4 ∷ 3 ∷ 5 ∷ 8 ∷ 9 ∷ []) (0 ∷ 1 ∷ 1 ∷ 0 ∷ 0 ∷ 7 ∷ []) 5 (2 ∷ 3 ∷ 5 ∷ 6 ∷ 7 ∷ 1 ∷ []) 8)
      (document_of (0 ∷ 1 ∷ 0 ∷ 4 ∷ 1 ∷ 5 ∷ 0 ∷ 4 ∷ 3 ∷ 5 ∷ 8 ∷ 9 ∷ []) (0 ∷ 0 ∷ 0 ∷ 0 ∷ 0 ∷ 7 ∷ []) 3 (2 ∷ 6 ∷ 7 ∷ 6 ∷ 7 ∷ 1 ∷ []) 8) 2

-- Other limits: installations differ in the steps of a pattern, the nodes of an inserted tree and the digits of a line. What one accepts, another accepts with the same
-- frames and answers where its limits are no less; and to what one accepts another answers by 2, or by 13 where the line is too long for it, or accepts it
pub record OtherLimits : Type 0 where
  -- the checks of this page are those of an installation with our limits; those from before patterns became longer have no greater ones
  pub our_frame : (b : List ℕ) (n at : ℕ) → frame_in ours b n at ≡ frame_check b n at
  pub our_line : (l : List ℕ) (n : ℕ) (b : List ℕ) → take_in ours l n b ≡ take_check l n b
  pub our_batch : (b : List ℕ) → batch_in ours b ≡ batch_check b
  pub our_plan : (b : List ℕ) (words : ℕ) → plan_in ours b words ≡ plan_check b words
  pub our_verdict : (r : List ℕ) (u : Update) (words : ℕ) → (pair_in ours r u ≡ deep_check r u) × (verdict_in ours r u words ≡ verdict_check r u words)
  pub older : Within before_longer ours
  -- a line that is taken is no longer than that of the longest frame, which is the longest that is read at all
  pub line_most : (i : Installation) (l : List ℕ) (n : ℕ) (b : List ℕ) → take_in i l n b ≡ Fine → length l ≤ longest i
  pub longest_line : (longest ours ≡ digit_limit) × (longest before_longer ≡ before_longer.most_digits)
  -- old frames: the same frame; a line, a batch, a plan with all its answers, and a verdict, refused for room exactly where it was
  pub frames_kept : (o i : Installation) → Within o i → (b : List ℕ) (n at : ℕ) (f : Extent) → answered (frame_in o b n at) (frame_of b at) ≡ Ok f →
      answered (frame_in i b n at) (frame_of b at) ≡ Ok f
  pub lines_kept : (o i : Installation) → Within o i → (l : List ℕ) (n : ℕ) (b : List ℕ) → take_in o l n b ≡ Fine → take_in i l n b ≡ Fine
  pub batches_kept : (o i : Installation) → Within o i → (b : List ℕ) → batch_in o b ≡ Fine → batch_in i b ≡ Fine
  pub plans_kept : (o i : Installation) → Within o i → (m : Mode) (b before after : List ℕ) (answer : Result ℕ Refusal) → batch_in o b ≡ Fine →
      PlanBy (plan_in o b (length before)) (relation_of m) b before after answer → PlanBy (plan_in i b (length before)) (relation_of m) b before after answer
  pub verdicts_kept : (o i : Installation) → Within o i → (r : List ℕ) (u : Update) (words : ℕ) → pair_in o r u ≡ Fine → (pair_in i r u ≡ Fine) × (verdict_in o r u words ≡ verdict_in i r u words)
  -- longer ones: the answer to a frame and to a line, exactly; and its number
  pub frame_answer : (i j : Installation) (b : List ℕ) (n at : ℕ) → frame_in i b n at ≡ Fine → frame_in j b n at ≡ to_frame j b at
  pub line_answer : (i j : Installation) (l : List ℕ) (n : ℕ) (b : List ℕ) → take_in i l n b ≡ Fine → take_in j l n b ≡ to_line j l n b
  pub frame_number : (i j : Installation) (b : List ℕ) (n at : ℕ) (why : Refusal) → frame_in i b n at ≡ Fine → frame_in j b n at ≡ Err why → reason_number why.reason ≡ 2
  pub line_number : (i j : Installation) (l : List ℕ) (n : ℕ) (b : List ℕ) (why : Refusal) → take_in i l n b ≡ Fine → take_in j l n b ≡ Err why →
      ((j.most_digits < length l) × (reason_number why.reason ≡ 13)) ⊎ ((length l ≤ j.most_digits) × (reason_number why.reason ≡ 2))
  -- there is such a frame
  pub long_read : (frame_check read_of_65 0 0 ≡ Fine) × (frame_in before_longer read_of_65 0 0 ≡ refuse 2 6 1)

-- the demands' example with a wider read: delete a/b, then read any child of a
abbrev pub any_child : List ℕ
any_child = 3 ∷ 2 ∷ 0 ∷ 1 ∷ 1 ∷ 2 ∷ 1 ∷ 2 ∷ 0 ∷ 1 ∷ 1 ∷ 0 ∷ []

-- Never safer: planners make patterns wider by hand. Widened r u s v says that both pairs of a read and an update are accepted, and that s and v are as r and u with any
-- number of labels made wildcards, of child steps made descendant steps and, in the inserted tree, of nodes added behind the last one
pub record NeverSafer : Type 0 where
  -- wider is reflexive and transitive, and each such change makes wider
  pub itself : (r : List ℕ) (u : Update) → Wider r u r u
  pub onward : (r s t : List ℕ) (u v w : Update) → Wider r u s v → Wider s v t w → Wider r u t w
  pub wildcard : (p : List ℕ) (i : ℕ) → WiderPattern p (set p (2 * i + 1) 0)
  pub descendant : (p : List ℕ) (i : ℕ) → axis p (suc i) ≡ 1 → WiderPattern p (set p (2 * suc i) 2)
  pub behind : (x more : List ℕ) → WiderTree x (x ++ more)
  -- a wider read with a wider delete, or with a wider insert of a wider tree, is a wider pair; a batch is made wider frame by frame
  pub with_delete : (r s p q : List ℕ) → WiderPattern r s → WiderPattern p q → Wider r (delete p) s (delete q)
  pub with_insert : (r s p q x y : List ℕ) → WiderPattern r s → WiderPattern p q → WiderTree x y → Wider r (insert p x) s (insert q y)
  pub no_frames : WiderFrames [] []
  pub read_frame : (b c : List (Frame (List ℕ) Update)) (r s : List ℕ) → WiderPattern r s → WiderFrames b c → WiderFrames (read r ∷ b) (read s ∷ c)
  pub update_frame : (b c : List (Frame (List ℕ) Update)) (u v : Update) → WiderUpdate u v → WiderFrames b c → WiderFrames (update u ∷ b) (update v ∷ c)
  -- what no verdict refuses is accepted; a wider read and delete stay accepted, and a wider read and insert where the wider tree is; a verdict on them has room where it had it
  pub accepted : (r : List ℕ) (u : Update) → Bits16 r → UpdateBits u → deep_check r u ≡ Fine → Accepted r u
  pub deletes : (r s p q : List ℕ) → WiderPattern r s → WiderPattern p q → Accepted r (delete p) → Accepted s (delete q)
  pub inserts : (r s p q x y : List ℕ) → WiderPattern r s → WiderPattern p q → Accepted r (insert p x) → Bits16 y → tree_check y tree_limit 3 ≡ Fine → Accepted s (insert q y)
  pub room : (r s : List ℕ) (u v : Update) → Widened r u s v → (words : ℕ) → verdict_check r u words ≡ Fine → verdict_check s v words ≡ Fine
  -- a conflict stays one, and so does a deep one: what a pattern selects a wider one selects, and where the sets differ, on any sound document, they still do, so that every
  -- witness stays one, and the smallest never grows
  pub conflicts : (r s : List ℕ) (u v : Update) → Widened r u s v → Conflict r u → Conflict s v
  pub deeps : (r s : List ℕ) (u v : Update) → Widened r u s v → Deep r u → Deep s v
  pub selects : (p q : List ℕ) → WiderPattern p q → (d : Doc) (v : ℕ) → Selects p d v → Selects q d v
  pub differences : (r s : List ℕ) (u v : Update) → Widened r u s v → (d : Doc) → Sound d → Differs r u d → Differs s v d
  pub witnesses : (r s : List ℕ) (u v : Update) → Widened r u s v → (t : List ℕ) → Witness r u t → Witness s v t
  pub smallest : (r s : List ℕ) (u v : Update) → Widened r u s v → (m n : ℕ) → Smallest r u m → Smallest s v n → 0 < m → (0 < n) × (n ≤ m)
  -- so say the calls: a verdict that said conflict says conflict, into an output that is no shorter, with a witness of no more nodes; a deep yes stays yes; and a proposed
  -- tree that was accepted stays accepted
  pub verdicts : (r s : List ℕ) (u v : Update) → Widened r u s v → (before after before' after' : List ℕ) (n : ℕ) (answer : Result (Option ℕ) Refusal) → NodeVerdict r u before after (Ok (Some n)) →
      NodeVerdict s v before' after' answer → length before ≤ length before' → (m : ℕ) × (answer ≡ Ok (Some m)) × (m ≤ n)
  pub deep_verdicts : (r s : List ℕ) (u v : Update) → Widened r u s v → (answer : Result Bool Refusal) → DeepVerdict r u (Ok true) → DeepVerdict s v answer → answer ≡ Ok true
  pub evidence : (r s : List ℕ) (u v : Update) → Widened r u s v → (t : List ℕ) (n : ℕ) (answer : Result (Option ℕ) Refusal) → Checks r u t (Ok (Some n)) → Checks s v t answer →
      (m : ℕ) × (answer ≡ Ok (Some m))
  -- plans of a batch and of one with wider frames, in the same mode: as many words, and none is less, so no slot moves towards 0; where one read alone was made wider, every
  -- other word stays; and an order that keeps the wider plan keeps the other
  pub slots : (m : Mode) (b c before plan before' plan' : List ℕ) (n n' : ℕ) → Bits16 b → Bits16 c → PlanOf (relation_of m) b before plan (Ok n) →
      PlanOf (relation_of m) c before' plan' (Ok n') → WiderFrames (batch_of b) (batch_of c) → (n' ≡ n) × ((k : ℕ) → k < n → get_or plan k 0 ≤ get_or plan' k 0)
  pub one_read : (m : Mode) (b c before plan before' plan' : List ℕ) (n n' : ℕ) → Bits16 b → Bits16 c → PlanOf (relation_of m) b before plan (Ok n) →
      PlanOf (relation_of m) c before' plan' (Ok n') → (k : ℕ) (r s : List ℕ) → WidenedRead (batch_of b) (batch_of c) k r s →
      (get_or plan k 0 ≤ get_or plan' k 0) × ((j : ℕ) → j < n → j ≢ k → get_or plan' j 0 ≡ get_or plan j 0)
  pub orders : (m : Mode) (b c before plan before' plan' : List ℕ) (n n' : ℕ) → Bits16 b → Bits16 c → PlanOf (relation_of m) b before plan (Ok n) →
      PlanOf (relation_of m) c before' plan' (Ok n') → WiderFrames (batch_of b) (batch_of c) → (o : List ℕ) → Keeps plan' (batch_of c) o → Keeps plan (batch_of b) o
  -- the converse fails, by each of the changes: a wider label or axis in the read, a wider label in the update, a node more in the tree. So a law that what is narrower keeps
  -- a conflict is wrong
  pub by_label : OnlyWider a/c (delete a/b) a/any (delete a/b)
  pub by_axis : OnlyWider a/c (delete a/b) a//c (delete a/b)
  pub by_update : OnlyWider a/c (delete a/b) a/c (delete a/any)
  pub by_nodes : OnlyWider a//d (insert only_root c_alone) a//d (insert only_root c_and_d)
  pub not_narrower : ((r s : List ℕ) (u v : Update) → Widened r u s v → Conflict s v → Conflict r u) → ⊥
  pub not_narrower_deep : ((r s : List ℕ) (u v : Update) → Widened r u s v → Deep s v → Deep r u) → ⊥
  -- in a plan: delete a/b, then read a/c, which has slot 0, is made to read any child of a, which has slot 1
  pub moves : (m : Mode) → WidenedRead (batch_of example) (batch_of any_child) 1 a/c a/any × PlanOf (relation_of m) example (0 ∷ 0 ∷ []) (1 ∷ 0 ∷ []) (Ok 2) ×
      PlanOf (relation_of m) any_child (0 ∷ 0 ∷ []) (1 ∷ 1 ∷ []) (Ok 2)

-- Marks mended: a mending that is not refused leaves e of d, whatever d's marks were, with n entries in the list
pub record MarksMended : Type 1 where
  -- what it leaves is what the request's words say, and these settle the document, the list and the number
  pub by_words : (d e : Document) (before after : List ℕ) (n : ℕ) → Mends d e before after n → MendedBy d e before after n
  pub settled : (d e f : Document) (before after other : List ℕ) (n m : ℕ) → Mends d e before after n → MendedBy d f before other m → (f ≡ e) × (other ≡ after) × (m ≡ n)
  -- the nodes present afterwards are the largest sound set among the root and the nodes whose mark was 0; and where the shape is right, a document is sound exactly if
  -- its present nodes are a sound set
  pub largest : (d e : Document) (before after : List ℕ) (n : ℕ) → Mends d e before after n → LargestSound d.tables (λ v. present e.tables v ≡ true)
  pub sets : (d : Doc) → Bits16 d.rows → shape_check d ≡ Fine → Sound d ↔ SoundSet d (λ v. present d v ≡ true)
  -- it is sound and meets no refusal, so no later call refuses it for marks
  pub accepted : (d e : Document) (before after : List ℕ) (n : ℕ) → Mends d e before after n → whole_check e ≡ Fine
  pub sound : (d e : Document) (before after : List ℕ) (n : ℕ) → Bits16 d.tables.rows → Mends d e before after n → SoundDocument e
  -- a document that meets no refusal is left as it is, with nothing listed, into whatever list; and one of which nothing is listed met none
  pub same : (d : Document) → whole_check d ≡ Fine → (before after marks : List ℕ) (answer : Result ℕ Refusal) → Mend d d.tables.marks before marks after answer →
      (answer ≡ Ok 0) × (marks ≡ d.tables.marks) × (after ≡ before)
  pub none : (d e : Document) (before after : List ℕ) → Mends d e before after 0 → whole_check d ≡ Fine
  -- so mending twice is mending once
  pub twice : (d e : Document) (before after : List ℕ) (n : ℕ) → Mends d e before after n → (before' after' marks : List ℕ) (answer : Result ℕ Refusal) →
      Mend e e.tables.marks before' marks after' answer → (answer ≡ Ok 0) × (marks ≡ e.tables.marks) × (after' ≡ before')
  -- the list turns the new marks back into the old ones, and the old into the new
  pub back : (d e : Document) (before after : List ℕ) (n : ℕ) → Mends d e before after n → undone after n e.tables.marks ≡ d.tables.marks
  pub again : (d e : Document) (before after : List ℕ) (n : ℕ) → Mends d e before after n → redone after n d.tables.marks ≡ e.tables.marks
  -- a list is too short exactly if it has fewer than three words an entry; there are no more entries than used nodes; and with three words for each of these every
  -- document whose shape and identities are right is mended
  pub fits : (d e : Document) (before after : List ℕ) (n : ℕ) → Mends d e before after n → (words : ℕ) → (mend_check d words ≡ Fine) ↔ (3 * n ≤ words)
  pub most : (d e : Document) (before after : List ℕ) (n : ℕ) → Mends d e before after n → n ≤ d.tables.used
  pub calls : (d : Document) → shape_check d.tables ≡ Fine → identities_check d.ids d.tables.used d.next ≡ Fine → (before : List ℕ) →
      3 * d.tables.used ≤ length before → (e : Document) × (after : List ℕ) × (n : ℕ) × Mends d e before after n
  -- of a with mark 255, its child b with mark 2, c below that b and a child d of a, both with mark 0: a and d are left
  pub example : Mends (document_of (0 ∷ 1 ∷ 0 ∷ 2 ∷ 1 ∷ 3 ∷ 0 ∷ 4 ∷ []) (255 ∷ 2 ∷ 0 ∷ 0 ∷ 7 ∷ []) 4 (2 ∷ 3 ∷ 5 ∷ 6 ∷ []) 8)
      (document_of (0 ∷ 1 ∷ 0 ∷ 2 ∷ 1 ∷ 3 ∷ 0 ∷ 4 ∷ []) (0 ∷ 1 ∷ 1 ∷ 0 ∷ 7 ∷ []) 4 (2 ∷ 3 ∷ 5 ∷ 6 ∷ []) 8)
      (9 ∷ 9 ∷ 9 ∷ 9 ∷ 9 ∷ 9 ∷ 9 ∷ 9 ∷ 9 ∷ 9 ∷ []) (0 ∷ 255 ∷ 0 ∷ 1 ∷ 2 ∷ 1 ∷ 2 ∷ 0 ∷ 1 ∷ 9 ∷ []) 3
