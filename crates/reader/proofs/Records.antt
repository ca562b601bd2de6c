-- The records of what is open: how the words written change as containers open and close.
use Prim.Native.Nat.{ℕ, suc, ◌*◌, ◌+◌, ◌<◌, ◌≤◌}
use Rattle.members.specs.Records.{word_of}
use Rattle.reader.specs.Stacks.{Marked, back_all, back_members, begun, kind, name_of, open_of, shut_at, words}
use Rattle.reader.specs.Tokens.{put_at}
use Rattle.text.proofs.Machine.{Frame, Stack, depth_of, onto_members, onto_nodes}
use Rattle.text.proofs.Records.{records_length}
use Rattle.text.specs.Bytes.{Units}
use Rattle.text.specs.Node.{Members, Node, Nodes}
use Rattle.text.specs.Table.{Words, records, records_all, records_members, size, size_all, size_members, unnamed}
use lib.ListN.{drop, get_or, length, length-append, set, take}
use lib.Seq.{drop-append-add, drop-drop, get_or_at, get_or-set_other, get_or-set_same, set_at, take_at}
use mathlib.Core.List.{[], ◌++◌, ◌∷◌, append_assoc, append-nil}
use mathlib.Core.Path.{◌∙◌, ◌≡◌, ap, refl, sym}
use native.Mathlib.Omega.{arith}

-- Marks outside what is open don't matter, and a container that opens is marked.
marked_set : (m : Words) (st : Stack) (d x : ℕ) → depth_of st ≤ d → Marked m st → Marked (set m d x) st
unfolding Marked depth_of
marked_set m [] d x h q = tt
marked_set m (f ∷ st) d x h (e, q) = (get_or-set_other m d (depth_of st) x 0 (λ z. omega arith) ∙ e, marked_set m st d x (omega arith) q)

pub marked_push : (m : Words) (f : Frame) (st : Stack) (x : ℕ) → depth_of st < length m → x ≡ kind f → Marked m st → Marked (set m (depth_of st) x) (f ∷ st)
unfolding Marked
marked_push m f st x h e q = (get_or-set_same m (depth_of st) x 0 h ∙ e, marked_set m st (depth_of st) x (omega arith) q)

-- Four words for each record.
back_all_length : (vs : Nodes) (k : ℕ) → length (back_all vs k) ≡ 4 * size_all vs
unfolding back_all size
back_all_length Nodes.nil k = refl
back_all_length (Nodes.cons v vs) k = length-append (back_all vs k) (records v unnamed (k + size_all vs)) ∙ omega (arith, records_length v unnamed (k + size_all vs), back_all_length vs k)

pub back_members_length : (ms : Members) (k : ℕ) → length (back_members ms k) ≡ 4 * size_members ms
unfolding back_members size
back_members_length Members.empty k = refl
back_members_length (Members.member q us v ms) k = length-append (back_members ms k) (records v q (k + size_members ms)) ∙ omega (arith, records_length v q (k + size_members ms), back_members_length ms k)

pub words_length : (st : Stack) → length (words st) ≡ 4 * begun st
unfolding words begun
words_length [] = refl
words_length (Frame.array a vs ∷ st) = length-append (words st) _ ∙ omega (arith, words_length st, back_all_length vs (suc (begun st)))
words_length (Frame.object a ms q us ∷ st) = length-append (words st) _ ∙ omega (arith, words_length st, back_members_length ms (suc (begun st)))

pub value_length : (st : Stack) (v : Node) (m n : ℕ) → n ≡ begun st + size v → length (words st ++ records v m (begun st)) ≡ 4 * n
value_length st v m n e = length-append (words st) (records v m (begun st)) ∙ omega (arith, words_length st, records_length v m (begun st))

-- An element or a member that is read joins those before it.
pub words_array_joins : (a : ℕ) (vs : Nodes) (st : Stack) (v : Node) → words (Frame.array a vs ∷ st) ++ records v unnamed (begun (Frame.array a vs ∷ st)) ≡ words (Frame.array a (Nodes.cons v vs) ∷ st)
unfolding words begun back_all
words_array_joins a vs st v =
    let e : begun st + suc (size_all vs) ≡ suc (begun st) + size_all vs = omega arith in
    rw e (simp append_assoc)

pub words_object_joins : (a q : ℕ) (us : Units) (ms : Members) (st : Stack) (v : Node)
    → words (Frame.object a ms q us ∷ st) ++ records v q (begun (Frame.object a ms q us ∷ st)) ≡ words (Frame.object a (Members.member q us v ms) q us ∷ st)
unfolding words begun back_members
words_object_joins a q us ms st v =
    let e : begun st + suc (size_members ms) ≡ suc (begun st) + size_members ms = omega arith in
    rw e (simp append_assoc)

pub begun_array_joins : (a : ℕ) (vs : Nodes) (st : Stack) (v : Node) → begun (Frame.array a vs ∷ st) + size v ≡ begun (Frame.array a (Nodes.cons v vs) ∷ st)
unfolding begun size
begun_array_joins a vs st v = omega arith

pub begun_object_joins : (a q : ℕ) (us : Units) (ms : Members) (st : Stack) (v : Node) → begun (Frame.object a ms q us ∷ st) + size v ≡ begun (Frame.object a (Members.member q us v ms) q us ∷ st)
unfolding begun size
begun_object_joins a q us ms st v = omega arith

-- What is kept last first, put in order.
nodes_size : (vs l : Nodes) → size_all (onto_nodes vs l) ≡ size_all vs + size_all l
unfolding onto_nodes size
nodes_size Nodes.nil l = omega arith
nodes_size (Nodes.cons v vs) l = nodes_size vs (Nodes.cons v l) ∙ omega arith

members_size : (ms l : Members) → size_members (onto_members ms l) ≡ size_members ms + size_members l
unfolding onto_members size
members_size Members.empty l = omega arith
members_size (Members.member q us v ms) l = members_size ms (Members.member q us v l) ∙ omega arith

nodes_records : (vs l : Nodes) (k : ℕ) → records_all (onto_nodes vs l) k ≡ back_all vs k ++ records_all l (k + size_all vs)
unfolding onto_nodes records size back_all
nodes_records Nodes.nil l k = ap (records_all l) (omega arith)
nodes_records (Nodes.cons v vs) l k =
    nodes_records vs (Nodes.cons v l) k ∙ sym (append_assoc (back_all vs k) (records v unnamed (k + size_all vs)) (records_all l (k + (size v + size_all vs))) ∙ ap (λ n. back_all vs k ++ (records v unnamed (k + size_all vs) ++ records_all l n)) (omega arith))

members_records : (ms l : Members) (k : ℕ) → records_members (onto_members ms l) k ≡ back_members ms k ++ records_members l (k + size_members ms)
unfolding onto_members records size back_members
members_records Members.empty l k = ap (records_members l) (omega arith)
members_records (Members.member q us v ms) l k =
    members_records ms (Members.member q us v l) k ∙ sym (append_assoc (back_members ms k) (records v q (k + size_members ms)) (records_members l (k + (size v + size_members ms))) ∙ ap (λ n. back_members ms k ++ (records v q (k + size_members ms) ++ records_members l n)) (omega arith))

-- The words behind an open container's record.
unfoldable pub held : Frame → ℕ → Words
held (Frame.array a vs) k = back_all vs k
held (Frame.object a ms q us) k = back_members ms k

unfoldable pub opens : Frame → ℕ
opens (Frame.array a vs) = a
opens (Frame.object a ms q us) = a

pub words_frame : (f : Frame) (st : Stack) → words (f ∷ st) ≡ words st ++ ((opens f ∷ 0 ∷ word_of (name_of st) ∷ open_of st ∷ []) ++ held f (suc (begun st)))
unfolding words held opens
words_frame (Frame.array a vs) st = refl
words_frame (Frame.object a ms q us) st = refl

pub words_shut : (f : Frame) (st : Stack) (e n : ℕ) → n ≡ begun (f ∷ st)
    → words st ++ ((opens f ∷ e ∷ word_of (name_of st) ∷ n ∷ []) ++ held f (suc (begun st))) ≡ words st ++ records (shut_at f e) (word_of (name_of st)) (begun st)
unfolding begun records size shut_at held opens
words_shut (Frame.array a vs) st e n h =
    let s = nodes_size vs Nodes.nil in
    let k : n ≡ begun st + suc (size_all (onto_nodes vs Nodes.nil)) = omega arith in
    rw (k, nodes_records vs Nodes.nil (suc (begun st)), append-nil)
words_shut (Frame.object a ms q us) st e n h =
    let s = members_size ms Members.empty in
    let k : n ≡ begun st + suc (size_members (onto_members ms Members.empty)) = omega arith in
    rw (k, members_records ms Members.empty (suc (begun st)), append-nil)

pub begun_shut : (f : Frame) (st : Stack) (e : ℕ) → begun (f ∷ st) ≡ begun st + size (shut_at f e)
unfolding begun size shut_at
begun_shut (Frame.array a vs) st e = omega (arith, nodes_size vs Nodes.nil)
begun_shut (Frame.object a ms q us) st e = omega (arith, members_size ms Members.empty)

-- Two stores close the record that stands behind `w`, and word 3 gave the record around it.
pub close_record : (w r : Words) (n a m up e x : ℕ) → length w ≡ 4 * n
    → set (set (w ++ ((a ∷ 0 ∷ m ∷ up ∷ []) ++ r)) (4 * n + 1) e) (4 * n + 3) x ≡ w ++ ((a ∷ e ∷ m ∷ x ∷ []) ++ r)
close_record w r n a m up e x h =
    let h₁ : length (w ++ (a ∷ [])) ≡ 4 * n + 1 = length-append w (a ∷ []) ∙ omega arith in
    let h₃ : length (w ++ (a ∷ e ∷ m ∷ [])) ≡ 4 * n + 3 = length-append w (a ∷ e ∷ m ∷ []) ∙ omega arith in
    let f₁ : w ++ ((a ∷ 0 ∷ m ∷ up ∷ []) ++ r) ≡ (w ++ (a ∷ [])) ++ (0 ∷ m ∷ up ∷ r) = sym (append_assoc w (a ∷ []) (0 ∷ m ∷ up ∷ r)) in
    let g₁ : (w ++ (a ∷ [])) ++ (e ∷ m ∷ up ∷ r) ≡ (w ++ (a ∷ e ∷ m ∷ [])) ++ (up ∷ r) = append_assoc w (a ∷ []) (e ∷ m ∷ up ∷ r) ∙ sym (append_assoc w (a ∷ e ∷ m ∷ []) (up ∷ r)) in
    ap (λ l. set (set l (4 * n + 1) e) (4 * n + 3) x) f₁
    ∙ ap (λ l. set l (4 * n + 3) x) (set_at (w ++ (a ∷ [])) 0 (m ∷ up ∷ r) e (4 * n + 1) h₁ ∙ g₁)
    ∙ set_at (w ++ (a ∷ e ∷ m ∷ [])) up r x (4 * n + 3) h₃
    ∙ append_assoc w (a ∷ e ∷ m ∷ []) (x ∷ r)

-- Word `j` of the record behind `w`, whose words before it are `p`.
pub word_behind : (w p r : Words) (x n j : ℕ) → length w ≡ 4 * n → length p ≡ j → get_or (w ++ (p ++ (x ∷ r))) (4 * n + j) 0 ≡ x
word_behind w p r x n j h g =
    let k : length (w ++ p) ≡ 4 * n + j = length-append w p ∙ omega arith in
    ap (λ l. get_or l (4 * n + j) 0) (sym (append_assoc w p (x ∷ r))) ∙ get_or_at (w ++ p) x r 0 (4 * n + j) k

-- A record put behind the words written.
pub put_filled : (ws w tab : Words) (n a b c d : ℕ) → length ws ≡ 4 * n → tab ≡ ws ++ drop (4 * n) w
    → put_at tab n a b c d ≡ (ws ++ (a ∷ b ∷ c ∷ d ∷ [])) ++ drop (4 * (n + 1)) w
unfolding put_at
put_filled ws w tab n a b c d h e =
    let f : take (4 * n) tab ≡ ws = rw e (take_at ws (drop (4 * n) w) (4 * n) h) in
    let k : 4 * n + 4 ≡ length ws + 4 = omega arith in
    let k' : 4 * n + 4 ≡ 4 * (n + 1) = omega arith in
    let g : drop (4 * n + 4) tab ≡ drop (4 * (n + 1)) w =
    rw e (ap (λ x. drop x (ws ++ drop (4 * n) w)) k ∙ drop-append-add ws (drop (4 * n) w) 4 ∙ drop-drop 4 (4 * n) w ∙ ap (λ x. drop x w) k') in
    rw (f, g) (sym (append_assoc ws (a ∷ b ∷ c ∷ d ∷ []) (drop (4 * (n + 1)) w)))

pub four_more : (ws : Words) (n a b c d : ℕ) → length ws ≡ 4 * n → length (ws ++ (a ∷ b ∷ c ∷ d ∷ [])) ≡ 4 * (n + 1)
four_more ws n a b c d h = length-append ws (a ∷ b ∷ c ∷ d ∷ []) ∙ omega arith
