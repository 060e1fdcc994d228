-- Round 0, written to the table byte by byte.
use Prim.Native.Nat.{ℕ, ◌+◌, ◌-◌, ◌*◌, ◌≤◌, ◌<◌, min}
use mathlib.Core.Path.{◌≡◌, refl, sym, ap, ◌∙◌, subst}
use mathlib.Core.Bool.{Bool, cond}
use mathlib.Core.List.{List, ◌++◌}
use mathlib.Core.Logic.{⊎_elim}
use native.Mathlib.Nat.{add-sub_of_le}
use native.Mathlib.Omega.{arith}
use lib.ListN.{length, get_or, take, drop, replicate, length-take, length-drop}
use lib.Seq.{drop-drop, get_or-drop}
use borrow.Rule.Slice.PartMut.{put_mid, same_len_mid}
use Rattle.std.proofs.lemmas.List.{get_or_append_left, get_or-append_right, get_or-replicate, length-replicate}
use Rattle.std.proofs.lemmas.List.{length-append, get_or-take}
use Rattle.std.proofs.lemmas.Slice.{drop-put_mid, drop-append-drop}
use Rattle.sets.proofs.Laws.{below_or_from}
use Rattle.facts.specs.Facts.{members}
use Rattle.facts.proofs.Laws.{members-at, byte-none, missing}
use Rattle.closing.specs.Closing.{Written}
use Rattle.closing.specs.Sweep.{Eight, stored}

-- A table whose first entries are filled with one number.
module _ (n v k : ℕ) (table filled : List ℕ) (room : n ≤ length table) (is : filled ≡ replicate k v) (all : k ≡ n) where
  long : length filled ≡ n
  long = ap length is ∙ length-replicate k v ∙ all

  pub filled-long : length (filled ++ drop n table) ≡ length table
  filled-long = rw (length-append, length-drop) (omega (arith, long))

  pub filled-entries : (f : ℕ) → f < n → get_or (filled ++ drop n table) f 0 ≡ v
  filled-entries f h =
      get_or_append_left filled (drop n table) 0 f (omega (arith, long))
      ∙ ap (λ (l : List ℕ). get_or l f 0) is ∙ get_or-replicate k f v 0 (omega arith)

  pub filled-beyond : drop n (filled ++ drop n table) ≡ drop n table
  filled-beyond = drop-append-drop n table filled n (omega arith) long

-- Lists that are the same from a place on are the same from any later one on.
drop_more : (a b : List ℕ) (n m : ℕ) → n ≤ m → drop n a ≡ drop n b → drop m a ≡ drop m b
drop_more a b n m l e =
    ap (λ (k : ℕ). drop k a) (sym (add-sub_of_le l)) ∙ sym (drop-drop (m - n) n a) ∙ ap (drop (m - n)) e
    ∙ drop-drop (m - n) n b
    ∙ ap (λ (k : ℕ). drop k b) (add-sub_of_le l)

-- The facts of the first i bytes have their numbers, and no later one has any.
pub record Begun (state before : List ℕ) (i : ℕ) (table : List ℕ) : Type 0 where
  pub as_long : length table ≡ length before
  pub done : (f : ℕ) → f < i * 8 → get_or table f 0 ≡ stored (members state) f
  pub clear : (f : ℕ) → i * 8 ≤ f → f < 4096 → get_or table f 0 ≡ 65535
  pub beyond : drop 4096 table ≡ drop 4096 before

-- Before the first byte.
pub begun-clear : {state before table : List ℕ} → Written (λ _. 65535) before table → Begun state before 0 table
begun-clear w =
    record {
      as_long = w.as_long;
      done = λ f l. absurd (omega arith);
      clear = λ f _ l. w.entries f l;
      beyond = w.beyond;
    }

-- After the last one that there is.
pub begun-all : {state before table : List ℕ} (i : ℕ) → Begun state before i table → min 512 (length state) ≤ i
    → Written (stored (members state)) before table
unfolding stored
begun-all {state} i b all = record {
  as_long = b.as_long;
  entries =
      λ f l.
      ⊎_elim (b.done f)
      (λ h. b.clear f h l ∙ ap (λ (t : Bool). cond t 0 65535) (sym (missing 512 state f (omega arith))))
      (below_or_from f (i * 8));
  beyond = b.beyond;
}

-- One byte more, whose eight facts have their numbers: the entries before it and after it are as they were.
module _ {state before table : List ℕ} (i : ℕ) (b : Begun state before i table) (h : i < 512) where
  module _ (after : List ℕ) (long : length after ≡ length table)
      (earlier : (f : ℕ) → f < i * 8 → get_or after f 0 ≡ get_or table f 0)
      (eight : (k : ℕ) → k < 8 → get_or after (i * 8 + k) 0 ≡ stored (members state) (i * 8 + k))
      (later : drop (i * 8 + 8) after ≡ drop (i * 8 + 8) table) where
    same-later : (f : ℕ) → i * 8 + 8 ≤ f → get_or after f 0 ≡ get_or table f 0
    same-later f l =
        subst (λ (g : ℕ). get_or after g 0 ≡ get_or table g 0) (add-sub_of_le l)
        (sym (get_or-drop (i * 8 + 8) after (f - (i * 8 + 8)) 0)
        ∙ ap (λ (r : List ℕ). get_or r (f - (i * 8 + 8)) 0) later
        ∙ get_or-drop (i * 8 + 8) table (f - (i * 8 + 8)) 0)

    more : Begun state before (i + 1) after
    more = record {
      as_long = long ∙ b.as_long;
      done =
          λ f l.
          ⊎_elim (λ q. earlier f q ∙ b.done f q)
          (λ q. subst (λ (g : ℕ). get_or after g 0 ≡ stored (members state) g) (add-sub_of_le q)
          (eight (f - i * 8) (omega arith)))
          (below_or_from f (i * 8));
      clear = λ f l u. same-later f (omega arith) ∙ b.clear f (omega arith) u;
      beyond = drop_more after table (i * 8 + 8) 4096 (omega arith) later ∙ b.beyond;
    }

  -- A byte with facts: its eight entries are written; ..
  pub begun-some : (k : ℕ) (entries : List ℕ) → k ≡ 8 → 4096 ≤ length table
      → length entries ≡ length (take k (drop (i * 8) table)) → Eight (get_or state i 0) entries
      → Begun state before (i + 1) (put_mid (i * 8) k table entries)
  unfolding stored
  begun-some k entries eight room same numbers =
      let front : length (take (i * 8) table) ≡ i * 8 = rw length-take (omega arith) in
      let rest : length (take k (drop (i * 8) table)) ≡ k = rw (length-take, length-drop) (omega arith) in
      more (put_mid (i * 8) k table entries) (same_len_mid (i * 8) k table entries same)
      (λ f l.
      get_or_append_left (take (i * 8) table) (entries ++ drop k (drop (i * 8) table)) 0 f (omega arith)
      ∙ get_or-take (i * 8) table f 0 l)
      (λ j l.
      get_or-append_right (take (i * 8) table) (entries ++ drop k (drop (i * 8) table)) (i * 8) (i * 8 + j) 0 front
      (omega arith)
      ∙ ap (λ (g : ℕ). get_or (entries ++ drop k (drop (i * 8) table)) g 0) (omega arith)
      ∙ get_or_append_left entries (drop k (drop (i * 8) table)) 0 j (omega arith)
      ∙ numbers j l
      ∙ ap (λ (t : Bool). cond t 0 65535) (sym (members-at 512 state i j h l)))
      (drop-put_mid (i * 8) k table entries (i * 8 + 8) (omega arith) (omega arith) (omega arith))

  -- .. one without any is passed over.
  pub begun-none : get_or state i 0 ≡ 0 → Begun state before (i + 1) table
  unfolding stored
  begun-none none =
      more table refl (λ f l. refl)
      (λ k l. b.clear (i * 8 + k) (omega arith) (omega arith)
      ∙ sym (ap (λ (t : Bool). cond t 0 65535) (byte-none 512 state i k none l))) refl
