-- The state of a search: which nodes are marked, which are queued, and of which every edge has been followed.
-- Each node is queued once: the start at the beginning, every other as it is marked. Assumes nothing.
use Rattle.std.proofs.Common.{◌≡◌, ℕ, ◌+◌, ◌<◌, ◌≤◌, Bool, true, false, not, ◌&&◌, eqb, ◌≢◌, ◌⊎◌, List, length, get_or, set, Some, Option, sym, refl, ap, ◌∙◌, subst, inl, inr, ⊎_elim, not-suc-le-zero, arith, get_or-set_other, get_or-set_same, below_more}
use Rattle.std.proofs.lemmas.Bool.{cases_eq}
use Rattle.std.proofs.lemmas.Bool.Decides.{nat_tests}
use Rattle.search.specs.Paths.{Edge, Walk, step, onward}
use Rattle.search.specs.Marks.{Clear, Reached}
use Rattle.search.proofs.Count.{count, count-all, count_same, count_less}

-- a node that has not been queued: no mark, and not the start
abbrev pub fresh : ℕ → List ℕ → ℕ → Bool
fresh from marks i = eqb (get_or marks i 0) 0 && not (eqb i from)

-- node i stands in the queue
abbrev pub Queued : List ℕ → ℕ → ℕ → Type 0
Queued queue tail i = (q : ℕ) × (q < tail) × (get_or queue q 0 ≡ i)

-- what is known of a node with a mark
pub record Found (edge : ℕ → ℕ → Type 0) (n from : ℕ) (marks queue : List ℕ) (tail i : ℕ) : Type 0 where
  pub one : get_or marks i 0 ≡ 1
  pub path : Walk edge from i
  pub inside : i < n
  pub place : Queued queue tail i

-- Between two turns: the nodes before the head are done with, and those from there to the tail wait.
pub record Frontier (edge : ℕ → ℕ → Type 0) (n from : ℕ) (marks queue : List ℕ) (head tail : ℕ) : Type 0 where
  pub first : get_or queue 0 0 ≡ from
  pub some : 0 < tail
  pub order : head ≤ tail
  pub queued : (q : ℕ) → q < tail → (get_or queue q 0 ≡ from) ⊎ (get_or marks (get_or queue q 0) 0 ≡ 1)
  pub found : (i : ℕ) → (get_or marks i 0 ≡ 0 → ⊥) → Found edge n from marks queue tail i
  pub followed : (q : ℕ) → q < head → (j : ℕ) → edge (get_or queue q 0) j → get_or marks j 0 ≡ 1
  pub room : count (fresh from marks) n + tail ≡ n

marked : {m : ℕ} → m ≡ 1 → m ≡ 0 → ⊥
marked e z = omega arith

-- Before the first turn the start is queued, and nothing is marked.
pub begun : (edge : ℕ → ℕ → Type 0) (n from : ℕ) (m qs : List ℕ) → from < n → get_or qs 0 0 ≡ from → Clear m → Frontier edge n from m qs 0 1
begun edge n from m qs h at z =
    record {
      first = at;
      some = omega arith;
      order = omega arith;
      queued = below_more (λ q. (get_or qs q 0 ≡ from) ⊎ (get_or m (get_or qs q 0) 0 ≡ 1)) 0 (λ q l. absurd (not-suc-le-zero l)) (inl at);
      found = λ i nz. absurd (nz (z i));
      followed = λ q l. absurd (not-suc-le-zero l);
      room = omega (arith, count-all n, count_less (λ _. true) (fresh from m) from n h refl (taken from (z from)) (λ i ne. free i (z i) ne));
    }
  where
    taken : (i : ℕ) → get_or m i 0 ≡ 0 → (eqb (get_or m i 0) 0 && not (eqb i i)) ≡ false
    taken i e = grind (arith, nat_tests)

    free : (i : ℕ) → get_or m i 0 ≡ 0 → i ≢ from → (eqb (get_or m i 0) 0 && not (eqb i from)) ≡ true
    free i e ne = grind (arith, nat_tests)

-- a mark stays as another node is marked
mark_kept : (m : List ℕ) (j i : ℕ) → get_or m j 0 ≡ 0 → get_or m i 0 ≡ 1 → get_or (set m j 1) i 0 ≡ 1
mark_kept m j i z h =
    let ne : i ≢ j = λ e. marked (sym (ap (λ k. get_or m k 0) e) ∙ h) z in
    get_or-set_other m j i 1 0 ne ∙ h

-- The queue once node j is marked: as it was, with j at its end unless j stood in it.
pub record Grown (n from : ℕ) (marks queue : List ℕ) (tail j : ℕ) (queue' : List ℕ) (tail' : ℕ) : Type 0 where
  pub longer : tail ≤ tail'
  pub kept : (q : ℕ) → q < tail → get_or queue' q 0 ≡ get_or queue q 0
  pub new : (q : ℕ) → q < tail' → (q < tail) ⊎ (get_or queue' q 0 ≡ j)
  pub there : Queued queue' tail' j
  pub room : count (fresh from (set marks j 1)) n + tail' ≡ n

module _ {edge : ℕ → ℕ → Type 0} {n from : ℕ} {m qs : List ℕ} {head tail : ℕ} (f : Frontier edge n from m qs head tail) where
  -- a node is marked that was fresh
  one_less : (j : ℕ) → j < n → j < length m → get_or m j 0 ≡ 0 → j ≢ from → count (fresh from m) n ≡ count (fresh from (set m j 1)) n + 1
  one_less j h l z ne =
      count_less (fresh from m) (fresh from (set m j 1)) j n h (free z ne) (taken (get_or-set_same m j 1 0 l)) (λ i apart. other i (get_or-set_other m j i 1 0 apart))
    where
      free : get_or m j 0 ≡ 0 → j ≢ from → (eqb (get_or m j 0) 0 && not (eqb j from)) ≡ true
      free z' ne' = grind (arith, nat_tests)

      taken : get_or (set m j 1) j 0 ≡ 1 → (eqb (get_or (set m j 1) j 0) 0 && not (eqb j from)) ≡ false
      taken e = grind (arith, nat_tests)

      other : (i : ℕ) → get_or (set m j 1) i 0 ≡ get_or m i 0 → fresh from (set m j 1) i ≡ fresh from m i
      other i e = ap (λ k. eqb k 0 && not (eqb i from)) e

  -- there is room for one node more
  pub roomy : (j : ℕ) → j < n → j < length m → get_or m j 0 ≡ 0 → j ≢ from → tail < n
  roomy j h l z ne = omega (arith, f.room, one_less j h l z ne)

  -- a fresh node comes to the queue's end
  pub grown_more : (j : ℕ) → j < n → j < length m → get_or m j 0 ≡ 0 → j ≢ from → n ≤ length qs → Grown n from m qs tail j (set qs tail j) (tail + 1)
  grown_more j h l z ne lq =
      let inside : tail < length qs = omega (arith, roomy j h l z ne) in
      record {
        longer = omega arith;
        kept = λ q lt. let apart : q ≢ tail = omega arith in get_or-set_other qs tail q j 0 apart;
        new = below_more (λ q. (q < tail) ⊎ (get_or (set qs tail j) q 0 ≡ j)) tail (λ q lt. inl lt) (inr (get_or-set_same qs tail j 0 inside));
        there = (tail, omega arith, get_or-set_same qs tail j 0 inside);
        room = omega (arith, f.room, one_less j h l z ne);
      }

  -- the start stood in the queue
  pub grown_start : (j : ℕ) → j ≡ from → Grown n from m qs tail j qs tail
  grown_start j e =
      record {
        longer = omega arith;
        kept = λ q lt. refl;
        new = λ q lt. inl lt;
        there = (0, f.some, f.first ∙ sym e);
        room = ap (λ k. k + tail) (count_same (fresh from m) (fresh from (set m j 1)) n (λ i lt. ⊎_elim (λ s. start i s) (λ ne. other i ne) (cases_eq i from))) ∙ f.room;
      }
    where
      start : (i : ℕ) → i ≡ from → fresh from (set m j 1) i ≡ fresh from m i
      start i s = both (eqb (get_or (set m j 1) i 0) 0) (eqb (get_or m i 0) 0) i s
        where
          both : (x y : Bool) (k : ℕ) → k ≡ from → (x && not (eqb k from)) ≡ (y && not (eqb k from))
          both x y k s' = grind (arith, nat_tests)

      other : (i : ℕ) → i ≢ from → fresh from (set m j 1) i ≡ fresh from m i
      other i ne = ap (λ k. eqb k 0 && not (eqb i from)) (get_or-set_other m j i 1 0 (λ s. ne (s ∙ e)))

  -- an edge from the node at the head ends a path
  next_path : head < tail → (j : ℕ) → edge (get_or qs head 0) j → Walk edge from j
  next_path h j e =
      ⊎_elim
      (λ s. step (subst (λ i. edge i j) s e))
      (λ one. onward (f.found (get_or qs head 0) (marked one)).path e)
      (f.queued head h)

  -- a node that an edge from the head leads to is marked
  pub mark : {qs' : List ℕ} {tail' : ℕ} → head < tail → (j : ℕ) → edge (get_or qs head 0) j → j < n → j < length m → get_or m j 0 ≡ 0 → Grown n from m qs tail j qs' tail' → Frontier edge n from (set m j 1) qs' head tail'
  mark {qs' = qs'} {tail' = tail'} lt j e h l z g =
      record {
        first = g.kept 0 f.some ∙ f.first;
        some = omega (arith, f.some, g.longer);
        order = omega (arith, f.order, g.longer);
        queued = λ q lq. ⊎_elim (old q) (λ s. inr (subst (λ i. get_or (set m j 1) i 0 ≡ 1) (sym s) one)) (g.new q lq);
        found = λ i nz. ⊎_elim (here i) (there i nz) (cases_eq i j);
        followed = λ q lq k d. mark_kept m j k z (f.followed q lq k (subst (λ i. edge i k) (g.kept q (omega (arith, f.order))) d));
        room = g.room;
      }
    where
      one : get_or (set m j 1) j 0 ≡ 1
      one = get_or-set_same m j 1 0 l

      old : (q : ℕ) → q < tail → (get_or qs' q 0 ≡ from) ⊎ (get_or (set m j 1) (get_or qs' q 0) 0 ≡ 1)
      old q lq =
          ⊎_elim
          (λ s. inl (g.kept q lq ∙ s))
          (λ o. inr (subst (λ i. get_or (set m j 1) i 0 ≡ 1) (sym (g.kept q lq)) (mark_kept m j (get_or qs q 0) z o)))
          (f.queued q lq)

      here : (i : ℕ) → i ≡ j → Found edge n from (set m j 1) qs' tail' i
      here i s =
          subst (λ k. Found edge n from (set m j 1) qs' tail' k) (sym s)
          (record { one = one; path = next_path lt j e; inside = h; place = g.there })

      there : (i : ℕ) → (get_or (set m j 1) i 0 ≡ 0 → ⊥) → i ≢ j → Found edge n from (set m j 1) qs' tail' i
      there i nz ne =
          let same = get_or-set_other m j i 1 0 ne in
          let was = f.found i (λ o. nz (same ∙ o)) in
          let q = was.place.0 in
          let lq : q < tail = was.place.1 in
          record {
            one = same ∙ was.one;
            path = was.path;
            inside = was.inside;
            place = (q, omega (arith, g.longer), g.kept q lq ∙ was.place.2);
          }

  -- every edge of the node at the head has been followed
  pub passed : head < tail → ((j : ℕ) → edge (get_or qs head 0) j → get_or m j 0 ≡ 1) → Frontier edge n from m qs (head + 1) tail
  passed h here =
      record {
        first = f.first;
        some = f.some;
        order = omega arith;
        queued = f.queued;
        found = f.found;
        followed = below_more (λ q. (j : ℕ) → edge (get_or qs q 0) j → get_or m j 0 ≡ 1) head f.followed here;
        room = f.room;
      }

-- no node waits any more
pub ended : {edge : ℕ → ℕ → Type 0} {from : ℕ} {m qs : List ℕ} {head tail : ℕ} → Frontier edge 256 from m qs head tail → tail ≤ head → Reached (Walk edge from) m
ended {edge = edge} {from = from} {m = m} {qs = qs} {tail = tail} f h =
    record {
      sound = λ i nz. (f.found i nz).path;
      whole = whole;
      inside = λ i p. (f.found i (marked (whole i p))).inside;
    }
  where
    closed : (j k : ℕ) → get_or m j 0 ≡ 1 → edge j k → get_or m k 0 ≡ 1
    closed j k o d =
        let p = (f.found j (marked o)).place in
        let l : p.0 < tail = p.1 in
        f.followed p.0 (omega arith) k (subst (λ i. edge i k) (sym p.2) d)

    whole : (i : ℕ) → Walk edge from i → get_or m i 0 ≡ 1
    whole i (step d) = f.followed 0 (omega (arith, f.some)) i (subst (λ k. edge k i) (sym f.first) d)
    whole i (onward {j = j} p d) = closed j i (whole j p) d

-- The edges of the node before the head, in the slots below k, have been followed.
pub record Following (slots : ℕ → ℕ) (leads : ℕ → ℕ → Option ℕ) (n from : ℕ) (marks queue : List ℕ) (head tail node k : ℕ) : Type 0 where
  pub turn : ℕ
  pub next : head ≡ turn + 1
  pub front : Frontier (Edge slots leads) n from marks queue turn tail
  pub left : turn < tail
  pub at : get_or queue turn 0 ≡ node
  pub done : (i : ℕ) → i < k → (j : ℕ) → leads node i ≡ Some j → get_or marks j 0 ≡ 1

module _ {slots : ℕ → ℕ} {leads : ℕ → ℕ → Option ℕ} {n from : ℕ} {m qs : List ℕ} {head tail node k : ℕ} (f : Following slots leads n from m qs head tail node k) where
  -- slot k leads to a node that had no mark
  pub slot_new : {qs' : List ℕ} {tail' : ℕ} → k < slots node → (j : ℕ) → leads node k ≡ Some j → j < n → j < length m → get_or m j 0 ≡ 0 → Grown n from m qs tail j qs' tail' → Following slots leads n from (set m j 1) qs' head tail' node (k + 1)
  slot_new ks j e h l z g =
      record {
        turn = f.turn;
        next = f.next;
        front = mark f.front f.left j (subst (λ x. Edge slots leads x j) (sym f.at) (k, ks, e)) h l z g;
        left = omega (arith, f.left, g.longer);
        at = g.kept f.turn f.left ∙ f.at;
        done = below_more (λ i. (j' : ℕ) → leads node i ≡ Some j' → get_or (set m j 1) j' 0 ≡ 1) k
            (λ i lt j' e'. mark_kept m j j' z (f.done i lt j' e'))
            (λ j' e'. let same : j' ≡ j = cc in subst (λ x. get_or (set m j 1) x 0 ≡ 1) (sym same) (get_or-set_same m j 1 0 l));
      }

  -- where slot k leads, if anywhere, there was a mark
  pub slot_old : ((j : ℕ) → leads node k ≡ Some j → get_or m j 0 ≡ 0 → ⊥) → Following slots leads n from m qs head tail node (k + 1)
  slot_old had =
      record {
        turn = f.turn;
        next = f.next;
        front = f.front;
        left = f.left;
        at = f.at;
        done = below_more (λ i. (j : ℕ) → leads node i ≡ Some j → get_or m j 0 ≡ 1) k f.done (λ j e. (f.front.found j (had j e)).one);
      }

  -- every slot has been looked at
  pub slots_over : slots node ≤ k → Frontier (Edge slots leads) n from m qs head tail
  slots_over h =
      subst (λ x. Frontier (Edge slots leads) n from m qs x tail) (sym f.next)
      (passed f.front f.left (λ j e. let e' = subst (λ x. Edge slots leads x j) f.at e in f.done e'.0 (omega (arith, e'.1)) j e'.2))
