-- Closing that stops in the round where a fact arrives: what it shows, and how the worklist comes to it.
use Prim.Native.Nat.{ℕ, ◌≤◌, ◌<◌}
use native.Mathlib.Omega.{arith}
use mathlib.Core.Path.{◌≡◌, refl, sym, ap, ◌∙◌, fun_ext}
use mathlib.Core.Logic.{inl, inr}
use mathlib.Core.Bool.{true, false, cond}
use mathlib.Core.List.{List, [], ◌∷◌, ◌++◌, append_assoc}
use mathlib.Core.List.Memᴰ
use lib.Dec.{T, ltb}
use borrow.Author.Tests.{lt-ltb, le-ltb}
use Rattle.sets.specs.Sets.{Facts, listed, ◌∈◌}
use Rattle.meaning.specs.Model.{Clause}
use Rattle.meaning.specs.Rounds.{round, rounds, closure, round_number}
use Rattle.meaning.specs.Early.{shown, rounds_for}
use Rattle.meaning.specs.Worklist.{Work, places_in, taken, begun}
use Rattle.meaning.specs.Working.{Known, Arrived, Toward, sooner}
use Rattle.sets.proofs.Laws.{passes, fails, is_true, is_false, by-test, listed-is, below_or_from}
use Rattle.meaning.proofs.Closing.{round_mono, round_number-is}
use Rattle.meaning.proofs.Places.{listed_in, listed_out, places-none}
use Rattle.meaning.proofs.Arriving.{round_closes, number_le, number-rounds, rounds-few, closure-below}
use Rattle.meaning.proofs.Arriving.{arrived-number, arrived-few, arrived-not, begun-sound, begun-near}
use Rattle.meaning.proofs.Worklist.{take-first, taken-within, within-done, within-settled, within-after}
use Rattle.meaning.proofs.Worklist.{rests_closure, rests_number, rests_latest, rests_crossings}

-- ---- what is shown

module _ (cs : List Clause) (S : Facts) where
  -- A fact of the closure stands in a round exactly from its round number on.
  pub stands_from : (r f : ℕ) → T (closure cs S f) → round_number cs S f ≤ r → T (round cs S r f)
  stands_from r f t l = round_mono cs S (round_number cs S f) r l f ((round_number-is cs S f).stands t)

  module _ (r f : ℕ) where
    -- What stands in the round is shown with its round number, ..
    pub shown_in : T (round cs S r f) → shown cs S r f ≡ round_number cs S f
    unfolding shown
    shown_in t = let e : round cs S r f ≡ true = is_true t in rw e

    -- .. and nothing else is.
    pub shown_out : (T (round cs S r f) → ⊥) → shown cs S r f ≡ 65535
    unfolding shown
    shown_out n = let e : round cs S r f ≡ false = is_false n in rw e

  -- Full closing is closing up to the last of all rounds.
  pub shown-all : (f : ℕ) → shown cs S (rounds cs S) f ≡ round_number cs S f
  unfolding closure
  shown-all f =
      by-test (closure cs S f) (λ e. shown_in (rounds cs S) f (passes e))
      (λ e. shown_out (rounds cs S) f (fails e) ∙ sym ((round_number-is cs S f).outside (fails e)))

  -- The rounds for a fact that is held, ..
  pub rounds-held : (g : ℕ) → T (closure cs S g) → rounds_for cs S g ≡ round_number cs S g
  unfolding rounds_for
  rounds-held g t = let e : closure cs S g ≡ true = is_true t in rw e

  -- .. and for one that is absent.
  pub rounds-absent : (g : ℕ) → (T (closure cs S g) → ⊥) → rounds_for cs S g ≡ rounds cs S
  unfolding rounds_for
  rounds-absent g n = let e : closure cs S g ≡ false = is_false n in rw e

  -- The answer is what full closing says of the fact.
  pub shown-asked : (g : ℕ) → shown cs S (rounds_for cs S g) g ≡ round_number cs S g
  shown-asked g =
      by-test (closure cs S g)
      (λ e. let t = passes e in
      shown_in (rounds_for cs S g) g (rw (rounds-held g t) ((round_number-is cs S g).stands t)))
      (λ e. rw (rounds-absent g (fails e)) (shown-all g))

  -- For a stored fact no round is run: the state is shown, and nothing arose sooner.
  module _ {g : ℕ} (e : S g ≡ true) where
    stored-number : (f : ℕ) → S f ≡ true → round_number cs S f ≡ 0
    unfolding round
    stored-number f h = let l = number_le cs S 0 f (passes h) in omega arith

    pub stored-rounds : rounds_for cs S g ≡ 0
    unfolding round
    stored-rounds = rounds-held g (round_closes cs S 0 g (passes e)) ∙ stored-number g e

    pub stored-shown : (f : ℕ) → shown cs S (rounds_for cs S g) f ≡ cond (S f) 0 65535
    unfolding round
    stored-shown f =
        by-test (S f)
        (λ h. rw (stored-rounds, h) (shown_in 0 f (passes h) ∙ stored-number f h))
        (λ h. rw (stored-rounds, h) (shown_out 0 f (fails h)))

    pub stored-crossings : places_in (sooner cs S g) cs ≡ 0
    unfolding sooner
    stored-crossings =
        places-none (sooner cs S g) cs (λ f. rw (stored-number g e) (le-ltb (round_number cs S f) 0 (omega arith)))

-- ---- the worklist

-- the facts have these numbers, the latest of so many rounds, and so many places have been crossed
pub record Stopped (cs : List Clause) (S : Facts) (g : ℕ) (w : Work) : Type 0 where
  pub number : (f : ℕ) → w.number f ≡ shown cs S (rounds_for cs S g) f
  pub latest : w.latest ≡ rounds_for cs S g
  pub crossings : w.crossings ≡ places_in (sooner cs S g) cs

module _ {cs : List Clause} {S : Facts} (known : Known cs S) where
  -- A round number is below 65,535 exactly in the closure.
  pub number-inside : (f : ℕ) → round_number cs S f < 65535 → T (closure cs S f)
  number-inside f l =
      by-test (closure cs S f) passes (λ e. absurd (omega (arith, (round_number-is cs S f).outside (fails e))))

  pub number-below : (f : ℕ) → T (closure cs S f) → round_number cs S f < 65535
  number-below f t = omega (arith, number-rounds cs S f t, rounds-few known)

  -- What arose sooner than an absent fact is the closure.
  pub absent-sooner : (g : ℕ) → (T (closure cs S g) → ⊥) → (f : ℕ) → sooner cs S g f ≡ closure cs S f
  unfolding sooner
  absent-sooner g n f =
      rw ((round_number-is cs S g).outside n) (
      by-test (closure cs S f)
      (λ i. lt-ltb (round_number cs S f) 65535 (number-below f (passes i)) ∙ sym i)
      (λ i.
      let out : 65535 ≤ round_number cs S f = omega (arith, (round_number-is cs S f).outside (fails i)) in
      le-ltb (round_number cs S f) 65535 out ∙ sym i)
      )

  module _ {g : ℕ} where
    -- Before the first turn, where g isn't stored.
    pub toward-start : S g ≡ false → Toward cs S g [] (begun cs S)
    unfolding round
    toward-start e =
        let later : round_number cs S g ≡ 0 → ⊥ =
        λ z.
        let t = number-inside g (omega arith) in
        fails e (rw z at ((round_number-is cs S g).stands t))
        in
        record {
          sound = begun-sound known;
          near = omega (arith, begun-near known);
          sooner = λ f m. absurd (Memᴰ.not-nil m);
        }

    module _ {had rest : List ℕ} {f : ℕ} {w : Work} (t : Toward cs S g had w) (e : w.queue ≡ f ∷ rest) where
      -- What has arrived, and that the fact at hand has.
      first_in : f ∈ had ++ w.queue
      first_in = Memᴰ.append_right had (rw e (Memᴰ.head refl))

      first-number : w.number f ≡ round_number cs S f
      first-number = arrived-number known t.sound.arrived f first_in

      -- Whatever stands in a round up to that of the first fact that waits has arrived.
      first-settled : (x : ℕ) → T (round cs S (round_number cs S f) x) → x ∈ had ++ w.queue
      first-settled x s =
          let i = take-first known t.sound e in
          rw (e, ← append_assoc had (f ∷ []) rest) (within-settled known i x s)

      -- Where its number is smaller than g's, it arose sooner.
      first-sooner : w.number f < w.number g → round_number cs S f < round_number cs S g
      first-sooner l =
          let late : round_number cs S g ≤ round_number cs S f → ⊥ =
          λ k.
          let few = arrived-few known t.sound.arrived f first_in in
          let inside = number-inside g (omega (arith, first-number)) in
          let there = first-settled g (stands_from cs S (round_number cs S f) g inside k) in
          omega (arith, arrived-number known t.sound.arrived g there, first-number)
          in
          omega arith

      -- So it is taken.
      pub toward-next : w.number f < w.number g → Toward cs S g (had ++ f ∷ []) (taken cs f rest w)
      toward-next l =
          let i = taken-within known t.sound e in
          let before = first-sooner l in
          record {
            sound = within-done known i;
            near = omega (arith, i.near);
            sooner = λ x m. elim (Memᴰ.append_cases had m) [
              | inl j ↦ t.sooner x j
              | inr j ↦ rw (Memᴰ.eq_of_singleton j) before
            ];
          }

    -- ---- what it comes to

    module _ {had : List ℕ} {w : Work} (t : Toward cs S g had w) where
      -- None waits: the fact is absent, and everything has been taken.
      pub stopped-empty : w.queue ≡ [] → Stopped cs S g w
      stopped-empty e =
          let all = rests_closure known t.sound e in
          let absent : T (closure cs S g) → ⊥ =
          λ i. let l = t.sooner g ((listed-is had g).0 (rw (all g) i)) in omega arith
          in
          let r = rounds-absent cs S g absent in
          record {
            number = λ f. rests_number known t.sound e f ∙ rw r (sym (shown-all cs S f));
            latest = rests_latest known t.sound e ∙ sym r;
            crossings =
                rests_crossings known t.sound e
                ∙ ap (λ X. places_in X cs) (fun_ext (λ f. sym (absent-sooner g absent f)));
          }

      -- The first fact that waits arose no sooner than g: g is held, and its round is finished.
      pub stopped-waiting : {f : ℕ} {rest : List ℕ} → w.queue ≡ f ∷ rest → w.number g ≤ w.number f → Stopped cs S g w
      unfolding sooner
      stopped-waiting {f} {rest} e l = record {
        number = λ x. by-test (round cs S (round_number cs S g) x)
            (λ s. rw (rounds-held cs S g held, shown_in cs S (round_number cs S g) x (passes s))
            (arrived-number known a x (come x (passes s))))
            (λ s. rw (rounds-held cs S g held, shown_out cs S (round_number cs S g) x (fails s))
            ((arrived-not known a x).1 (λ m. fails s
            (stands_from cs S (round_number cs S g) x (a.inside x m) (omega (arith, a.late x m, t.near))))));
        latest = rw (rounds-held cs S g held) (omega (arith, t.near, a.late g there));
        crossings = t.sound.crossings ∙ ap (λ X. places_in X cs) (fun_ext exact);
      }
        where
          a : Arrived cs S (had ++ w.queue) w
          a = t.sound.arrived

          -- g has arrived
          there : g ∈ had ++ w.queue
          there =
              by-test (listed (had ++ w.queue) g) (λ i. (listed-is _ g).0 (passes i))
              (λ i. let n = (arrived-not known a g).1 (λ m. fails i ((listed-is _ g).1 m)) in
              absurd (omega (arith, arrived-few known a f (first_in t e))))

          held : T (closure cs S g)
          held = a.inside g there

          order : round_number cs S g ≤ round_number cs S f
          order = omega (arith, arrived-number known a g there, first-number t e)

          -- what stands in g's round has arrived
          come : (x : ℕ) → T (round cs S (round_number cs S g) x) → x ∈ had ++ w.queue
          come x s = first-settled t e x (round_mono cs S (round_number cs S g) (round_number cs S f) order x s)

          -- what waits arose no sooner than f
          after : (x : ℕ) → x ∈ w.queue → round_number cs S f ≤ round_number cs S x
          after x m = elim (Memᴰ.cases_cons (rw e at m)) [
            | inl j ↦ rw j (omega arith)
            | inr j ↦ within-after known (take-first known t.sound e) x j
          ]

          exact : (x : ℕ) → listed had x ≡ ltb (round_number cs S x) (round_number cs S g)
          exact x = elim (below_or_from (round_number cs S x) (round_number cs S g)) [
            | inl k ↦ listed_in had x (taken-before x k) ∙ sym (lt-ltb _ _ k)
            | inr k ↦ listed_out had x (λ m. omega (arith, t.sooner x m)) ∙ sym (le-ltb _ _ k)
          ]
            where
              taken-before : (x : ℕ) → round_number cs S x < round_number cs S g → x ∈ had
              taken-before x k =
                  let i = number-inside x (omega (arith, number-below g held)) in
                  elim (Memᴰ.append_cases had (come x (stands_from cs S (round_number cs S g) x i (omega arith)))) [
                    | inl j ↦ j
                    | inr j ↦ absurd (omega (arith, after x j, order))
                  ]

  -- ---- without a fact

  -- A number that is no fact's is absent: closing for it is full closing.
  module _ (g : ℕ) (l : 4096 ≤ g) where
    none-absent : T (closure cs S g) → ⊥
    none-absent t = omega (arith, closure-below known g t)

    pub none-rounds : rounds_for cs S g ≡ rounds cs S
    none-rounds = rounds-absent cs S g none-absent

    pub none-shown : (f : ℕ) → shown cs S (rounds_for cs S g) f ≡ round_number cs S f
    none-shown f = rw none-rounds (shown-all cs S f)

    pub none-sooner : (f : ℕ) → sooner cs S g f ≡ closure cs S f
    none-sooner = absent-sooner g none-absent
