-- What a condition is made of, as far as it is read.
use Rattle.std.proofs.Common.{◌≡◌, ℕ, ◌+◌, ◌<◌, ◌≤◌, suc, Bool, true, false, max, cond, nat_lt, List, [], ◌∷◌, length, codes, Option, Some, None, refl, sym, ◌∙◌, ap, subst, arith}
use Rattle.std.proofs.lemmas.Bool.Decides.{nat_tests}
use Rattle.gx_lexer.specs.declared.token.Token.{Token}
use Rattle.gx_lexer.specs.declared.token.Token.TheVariants as token
use Rattle.gx_value.specs.declared.operators.Operator.{Operator}
use Rattle.gx_parse.specs.declared.statement.Given.{Given}
use Rattle.gx_parse.specs.declared.given.GivenReader.{GivenReader}
use Rattle.gx_parse.specs.declared.outcome.Outcome.TheVariants.{Goes, Wrong, Deep}
use Rattle.gx_parse.specs.declared.condition.Part.{Part}
use Rattle.gx_parse.specs.declared.condition.Part.TheVariants.{Operand, Column, Sign, Literal, Is, IsNot, Joint}
use Rattle.gx_parse.specs.Conditions.{Standing, closed_on, ended_in, condition_at, begun, on, and_operand, open_after, named_after, signed_after, given_on, joint_after, literal_on, condition_after, condition_of, part_after, behind_literal, null_after, and_after, or_after, close_after}
use Rattle.gx_parse.specs.Grammar.{word, IsName, Cond, cond_then, tightness, SaysTree, opens, joins}
use Rattle.gx_parse.specs.Grammar.Cond.{atom, is_null, group, negation, conj, disj}
use Rattle.gx_parse.specs.Literals.{given_from, given_after, given_of}
use Rattle.gx_parse.specs.Nests.{Group, Frame, Nest, is_negated, with_operand, total_of, total, opened, settled, settle_closed, closed, and_behind, or_behind, whole_in}
use Rattle.gx_parse.specs.Nests.{whole as whole_of}
use Rattle.gx_parse.specs.Outcomes.{Limits}
use Rattle.gx_parse.specs.Trees as trees
use Rattle.gx_parse.specs.Words.{is_word, is_open, is_close, name_in, operator_in, operator_of}
use Rattle.gx_parse.proofs.TokenFacts.{is_word_is, open_is, close_is, name_is}
use Rattle.gx_parse.proofs.GivenFacts.{GivenReads, given_begins, given_steps, given_ends}

-- conditions joined so far, as they are written
pub record Written : Type 0 where
  pub sum : Option Cond
  pub product : Option Cond

pub record Opened : Type 0 where
  pub written : Written
  pub negated : Bool

abbrev pub sum_then : Option Cond → List Token → List Token
sum_then None rest = rest
sum_then (Some c) rest = cond_then c (word (codes "or") ∷ rest)

abbrev pub product_then : Option Cond → List Token → List Token
product_then None rest = rest
product_then (Some c) rest = cond_then c (word (codes "and") ∷ rest)

abbrev pub before_operand : Written → List Token → List Token
before_operand w rest = sum_then w.sum (product_then w.product rest)

abbrev pub opening : Bool → Token
opening true = word (codes "not")
opening false = token.Open

abbrev pub frames_then : List Opened → List Token → List Token
frames_then [] rest = rest
frames_then (o ∷ os) rest = frames_then os (before_operand o.written (opening o.negated ∷ rest))

abbrev pub SaysSum : Option Cond → Option trees.Tree → Type 0
SaysSum None None = Unit {0}
SaysSum (Some c) (Some t) = SaysTree c t
SaysSum _ _ = ⊥

abbrev pub SaysProduct : Option Cond → Option trees.Tree → Type 0
SaysProduct None None = Unit {0}
SaysProduct (Some c) (Some t) = SaysTree c t × (1 ≤ tightness c)
SaysProduct _ _ = ⊥

abbrev pub joins_before : Option Cond → ℕ
joins_before None = 0
joins_before (Some c) = suc (joins c)

abbrev pub written_joins : Written → ℕ
written_joins w = joins_before w.sum + joins_before w.product

abbrev pub frames_joins : List Opened → ℕ
frames_joins [] = 0
frames_joins (o ∷ os) = written_joins o.written + frames_joins os

-- behind so many open ones the condition stays within the limit
abbrev pub Within : ℕ → ℕ → Option Cond → Type 0
Within most k None = Unit {0}
Within most k (Some c) = opens c + k ≤ most

pub record GroupSays (most k : ℕ) (w : Written) (g : Group) : Type 0 where
  pub sum : SaysSum w.sum g.sum
  pub product : SaysProduct w.product g.product
  pub sum_within : Within most k w.sum
  pub product_within : Within most k w.product

-- nothing stands between a NOT and its operand
abbrev pub Behind : Written → List Frame → Type 0
Behind w fs = is_negated fs ≡ true → (w.sum ≡ None) × (w.product ≡ None)

abbrev pub FramesSay : ℕ → List Opened → List Frame → Type 0
FramesSay most [] [] = Unit {0}
FramesSay most (o ∷ os) (f ∷ fs) =
    (o.negated ≡ f.negated) × GroupSays most (length fs) o.written f.group × (suc (length fs) ≤ most) × Behind o.written fs × FramesSay most os fs
FramesSay most _ _ = ⊥

-- an operand may come
pub record Base (lim : Limits) (n : Nest) (os : List Opened) (w : Written) : Type 0 where
  pub frames : FramesSay lim.open_most os n.frames
  pub says : GroupSays lim.open_most (length n.frames) w n.group
  pub behind : Behind w n.frames
  pub count : n.joins ≡ frames_joins os + written_joins w
  pub within : n.joins ≤ lim.joins_most

-- an operand has ended
pub record AtJoint (lim : Limits) (whole : List Token) (lead : List Token → List Token) (n : Nest) (rest : List Token) : Type 0 where
  pub os : List Opened
  pub sum : Option Cond
  pub last : Cond
  pub tree : trees.Tree
  pub frames : FramesSay lim.open_most os n.frames
  pub says_sum : SaysSum sum n.group.sum
  pub product : n.group.product ≡ Some tree
  pub says_last : SaysTree last tree
  pub tight : 1 ≤ tightness last
  pub sum_within : Within lim.open_most (length n.frames) sum
  pub last_within : opens last + length n.frames ≤ lim.open_most
  pub count : n.joins ≡ frames_joins os + (joins_before sum + joins last)
  pub within : n.joins ≤ lim.joins_most
  pub top : is_negated n.frames ≡ false
  pub parts : whole ≡ lead (frames_then os (sum_then sum (cond_then last rest)))

abbrev pub lead_operand : (List Token → List Token) → List Opened → Written → List Token → List Token
lead_operand lead os w rest = lead (frames_then os (before_operand w rest))

abbrev pub PartReads : Limits → List Token → (List Token → List Token) → Nest → Part → List Token → Type 0
PartReads lim whole lead n Operand rest = (os : List Opened) × (w : Written) × Base lim n os w × (whole ≡ lead_operand lead os w rest)
PartReads lim whole lead n (Column c) rest = (os : List Opened) × (w : Written) × Base lim n os w × IsName c × (whole ≡ lead_operand lead os w (word c ∷ rest))
PartReads lim whole lead n (Sign c op) rest =
    (os : List Opened) × (w : Written) × (sign : List ℕ) × Base lim n os w × IsName c × (operator_of sign ≡ Some op) × (whole ≡ lead_operand lead os w (word c ∷ token.Operator sign ∷ rest))
PartReads lim whole lead n (Literal c op g) rest =
    (os : List Opened) × (w : Written) × (sign : List ℕ) × Base lim n os w × IsName c × (operator_of sign ≡ Some op)
    × GivenReads whole (λ xs. lead_operand lead os w (word c ∷ token.Operator sign ∷ xs)) g rest
PartReads lim whole lead n (Is c) rest = (os : List Opened) × (w : Written) × Base lim n os w × IsName c × (whole ≡ lead_operand lead os w (word c ∷ word (codes "is") ∷ rest))
PartReads lim whole lead n (IsNot c) rest =
    (os : List Opened) × (w : Written) × Base lim n os w × IsName c × (whole ≡ lead_operand lead os w (word c ∷ word (codes "is") ∷ word (codes "not") ∷ rest))
PartReads lim whole lead n Joint rest = AtJoint lim whole lead n rest

abbrev pub CondReads : Limits → List Token → (List Token → List Token) → Standing → List Token → Type 0
CondReads lim whole lead s rest = PartReads lim whole lead s.nest s.part rest

pub cond_begins : (lim : Limits) (whole : List Token) (lead : List Token → List Token) (rest : List Token) → whole ≡ lead rest → CondReads lim whole lead begun rest
cond_begins lim whole lead rest e = (
  [],
  record { sum = None; product = None },
  record { frames = tt; says = record { sum = tt; product = tt; sum_within = tt; product_within = tt }; behind = λ f. (refl, refl); count = refl; within = omega arith },
  e,
)

max_within : (a b k m : ℕ) → a + k ≤ m → b + k ≤ m → max a b + k ≤ m
max_within a b k m l r = grind (arith)

-- an operand behind AND or nothing
pub joins_operand : (lim : Limits) (whole : List Token) (lead : List Token → List Token) (fs : List Frame) (os : List Opened) (sum product : Option Cond) (gs gp : Option trees.Tree) (n : ℕ) (x : Cond) (t : trees.Tree) (rest : List Token)
    → FramesSay lim.open_most os fs → is_negated fs ≡ false → SaysSum sum gs → SaysProduct product gp → Within lim.open_most (length fs) sum → Within lim.open_most (length fs) product
    → SaysTree x t → 2 ≤ tightness x → opens x + length fs ≤ lim.open_most → n ≡ frames_joins os + (joins_before sum + joins_before product) + joins x → n ≤ lim.joins_most
    → whole ≡ lead (frames_then os (sum_then sum (product_then product (cond_then x rest))))
    → AtJoint lim whole lead (record { frames = fs; group = with_operand (record { sum = gs; product = gp }) t; joins = n }) rest
joins_operand lim whole lead fs os sum None gs None n x t rest f top ss sp ws wp sx tx ox c w p =
    record {
      os = os;
      sum = sum;
      last = x;
      tree = t;
      frames = f;
      says_sum = ss;
      product = refl;
      says_last = sx;
      tight = omega arith;
      sum_within = ws;
      last_within = ox;
      count = c ∙ (omega arith);
      within = w;
      top = top;
      parts = p;
    }
joins_operand lim whole lead fs os sum (Some c) gs (Some g) n x t rest f top ss sp ws wp sx tx ox k w p =
    record {
      os = os;
      sum = sum;
      last = conj c x;
      tree = trees.And g t;
      frames = f;
      says_sum = ss;
      product = refl;
      says_last = (g, t, sp.0, sx, sp.1, tx, refl);
      tight = omega arith;
      sum_within = ws;
      last_within = max_within (opens c) (opens x) (length fs) lim.open_most wp ox;
      count = k ∙ (omega arith);
      within = w;
      top = top;
      parts = p;
    }
joins_operand lim whole lead fs os sum None gs (Some g) n x t rest f top ss sp ws wp sx tx ox c w p = absurd sp
joins_operand lim whole lead fs os sum (Some c) gs None n x t rest f top ss sp ws wp sx tx ox k w p = absurd sp

abbrev settled_on : Bool → List Frame → Frame → Group → ℕ → trees.Tree → Nest
settled_on b fs f g n t = cond b (settled fs f.group n (trees.Not t)) (record { frames = f ∷ fs; group = with_operand g t; joins = n })

-- an operand ends each NOT before it
settles : (lim : Limits) (whole : List Token) (lead : List Token → List Token) (fs : List Frame) (os : List Opened) (w : Written) (g : Group) (n : ℕ) (x : Cond) (t : trees.Tree) (rest : List Token)
    → FramesSay lim.open_most os fs → GroupSays lim.open_most (length fs) w g → Behind w fs
    → SaysTree x t → 2 ≤ tightness x → opens x + length fs ≤ lim.open_most → n ≡ frames_joins os + written_joins w + joins x → n ≤ lim.joins_most
    → whole ≡ lead (frames_then os (before_operand w (cond_then x rest)))
    → AtJoint lim whole lead (settled fs g n t) rest
settles lim whole lead [] [] w g n x t rest f s b sx tx ox c wi p =
    joins_operand lim whole lead [] [] w.sum w.product g.sum g.product n x t rest f refl s.sum s.product s.sum_within s.product_within sx tx ox c wi p
settles lim whole lead [] (o ∷ os) w g n x t rest f s b sx tx ox c wi p = absurd f
settles lim whole lead (f ∷ fs) [] w g n x t rest a s b sx tx ox c wi p = absurd a
settles lim whole lead (f ∷ fs) (o ∷ os) w g n x t rest a s b sx tx ox c wi p =
    by_not f.negated refl (λ c1 p1. settles lim whole lead fs os o.written f.group n (negation x) (trees.Not t) rest a.4 a.1 a.3 (t, sx, tx, refl) (omega arith) (omega arith) c1 wi p1)
  where
    by_not : (b2 : Bool) → f.negated ≡ b2
        → (n ≡ frames_joins os + written_joins o.written + joins x → whole ≡ lead (frames_then os (before_operand o.written (word (codes "not") ∷ cond_then x rest))) → AtJoint lim whole lead (settled fs f.group n (trees.Not t)) rest)
        → AtJoint lim whole lead (settled_on b2 fs f g n t) rest
    by_not true e k =
        let h = b e in
        let q : opening o.negated ≡ word (codes "not") = ap (λ (y : Bool). opening y) (a.0 ∙ e) in
        let z : written_joins w ≡ 0 = rw (h.0, h.1) refl in
        k (omega arith)
        (p ∙ ap (λ (y : Option Cond). lead (frames_then (o ∷ os) (sum_then y (product_then w.product (cond_then x rest))))) h.0
        ∙ ap (λ (y : Option Cond). lead (frames_then (o ∷ os) (product_then y (cond_then x rest)))) h.1
        ∙ ap (λ (y : Token). lead (frames_then os (before_operand o.written (y ∷ cond_then x rest)))) q)
    by_not false e k =
        joins_operand lim whole lead (f ∷ fs) (o ∷ os) w.sum w.product g.sum g.product n x t rest a e s.sum s.product s.sum_within s.product_within sx tx ox c wi p

-- the operand of a nest
pub and_on : (lim : Limits) (whole : List Token) (lead : List Token → List Token) (n : Nest) (os : List Opened) (w : Written) (x : Cond) (t : trees.Tree) (rest : List Token)
    → Base lim n os w → SaysTree x t → 2 ≤ tightness x → opens x ≡ 0 → joins x ≡ 0 → whole ≡ lead_operand lead os w (cond_then x rest)
    → AtJoint lim whole lead (and_operand n t) rest
and_on lim whole lead n os w x t rest a sx tx ox jx p =
    settles lim whole lead n.frames os w n.group n.joins x t rest a.frames a.says a.behind sx tx
    (within_frames n.frames os a.frames ox)
    (a.count ∙ (omega arith)) a.within p
  where
    within_frames : (fs : List Frame) (us : List Opened) → FramesSay lim.open_most us fs → opens x ≡ 0 → opens x + length fs ≤ lim.open_most
    within_frames [] [] f e = omega arith
    within_frames (f ∷ fs) (u ∷ us) r e = let l = r.2 in omega arith
    within_frames [] (u ∷ us) r e = absurd r
    within_frames (f ∷ fs) [] r e = absurd r

goes_same : (a b : Standing) → Goes a ≡ Goes b → a ≡ b
goes_same a b e = cc

lt_from : (a b : ℕ) → nat_lt a b ≡ true → a < b
lt_from a b e = grind (arith, nat_tests)

-- `(` or NOT
opens_on : (lim : Limits) (whole : List Token) (lead : List Token → List Token) (n : Nest) (negated b : Bool) (s : Standing) (t : Token) (ts : List Token)
    → PartReads lim whole lead n Operand (t ∷ ts) → t ≡ opening negated → nat_lt (length n.frames) lim.open_most ≡ b
    → cond b (on (opened n negated) Operand) Deep ≡ Goes s → CondReads lim whole lead s ts
opens_on lim whole lead n negated true s t ts r k f e =
    let P : Standing → Type 0 = λ x. CondReads lim whole lead x ts in
    let l : length n.frames < lim.open_most = lt_from (length n.frames) lim.open_most f in
    let w0 : Written = record { sum = None; product = None } in
    let o : Opened = record { written = r.1; negated = negated } in
    subst P (goes_same (record { nest = opened n negated; part = Operand }) s e) (
      o ∷ r.0,
      w0,
      record {
        frames = (refl, r.2.says, omega arith, r.2.behind, r.2.frames);
        says = record { sum = tt; product = tt; sum_within = tt; product_within = tt };
        behind = λ q. (refl, refl);
        count = let c = r.2.count in omega arith;
        within = r.2.within;
      },
      r.3 ∙ ap (λ (y : Token). lead_operand lead r.0 r.1 (y ∷ ts)) k,
    )
opens_on lim whole lead n negated false s t ts r k f e = cc

names_on : (lim : Limits) (whole : List Token) (lead : List Token → List Token) (n : Nest) (o : Option (List ℕ)) (s : Standing) (t : Token) (ts : List Token)
    → PartReads lim whole lead n Operand (t ∷ ts) → name_in t ≡ o → named_after n o ≡ Goes s → CondReads lim whole lead s ts
names_on lim whole lead n None s t ts r f e = cc
names_on lim whole lead n (Some c) s t ts r f e =
    let P : Standing → Type 0 = λ x. CondReads lim whole lead x ts in
    let k = name_is t c f in
    subst P (goes_same (record { nest = n; part = Column c }) s e)
    (r.0, r.1, r.2, k.1, r.3 ∙ ap (λ (y : Token). lead_operand lead r.0 r.1 (y ∷ ts)) k.0)

operand_on : (lim : Limits) (whole : List Token) (lead : List Token → List Token) (n : Nest) (a b : Bool) (s : Standing) (t : Token) (ts : List Token)
    → PartReads lim whole lead n Operand (t ∷ ts) → is_word (codes "not") t ≡ a → is_open t ≡ b
    → cond a (open_after lim n true) (cond b (open_after lim n false) (named_after n (name_in t))) ≡ Goes s → CondReads lim whole lead s ts
operand_on lim whole lead n true b s t ts r f g e = opens_on lim whole lead n true (nat_lt (length n.frames) lim.open_most) s t ts r (is_word_is (codes "not") t f) refl e
operand_on lim whole lead n false true s t ts r f g e = opens_on lim whole lead n false (nat_lt (length n.frames) lim.open_most) s t ts r (open_is t g) refl e
operand_on lim whole lead n false false s t ts r f g e = names_on lim whole lead n (name_in t) s t ts r refl e

operator_is : (t : Token) (op : Operator) → operator_in t ≡ Some op → (sign : List ℕ) × (t ≡ token.Operator sign) × (operator_of sign ≡ Some op)
operator_is (token.Operator sign) op e = (sign, refl, e)
operator_is t op e = cc

signs_on : (lim : Limits) (whole : List Token) (lead : List Token → List Token) (n : Nest) (c : List ℕ) (o : Option Operator) (s : Standing) (t : Token) (ts : List Token)
    → PartReads lim whole lead n (Column c) (t ∷ ts) → operator_in t ≡ o → signed_after n c o ≡ Goes s → CondReads lim whole lead s ts
signs_on lim whole lead n c None s t ts r f e = cc
signs_on lim whole lead n c (Some op) s t ts r f e =
    let P : Standing → Type 0 = λ x. CondReads lim whole lead x ts in
    let k = operator_is t op f in
    subst P (goes_same (record { nest = n; part = Sign c op }) s e)
    (r.0, r.1, k.0, r.2, r.3, k.2, r.4 ∙ ap (λ (y : Token). lead_operand lead r.0 r.1 (word c ∷ y ∷ ts)) k.1)

column_on : (lim : Limits) (whole : List Token) (lead : List Token → List Token) (n : Nest) (c : List ℕ) (a : Bool) (s : Standing) (t : Token) (ts : List Token)
    → PartReads lim whole lead n (Column c) (t ∷ ts) → is_word (codes "is") t ≡ a → cond a (on n (Is c)) (signed_after n c (operator_in t)) ≡ Goes s → CondReads lim whole lead s ts
column_on lim whole lead n c true s t ts r f e =
    let P : Standing → Type 0 = λ x. CondReads lim whole lead x ts in
    subst P (goes_same (record { nest = n; part = Is c }) s e)
    (r.0, r.1, r.2, r.3, r.4 ∙ ap (λ (y : Token). lead_operand lead r.0 r.1 (word c ∷ y ∷ ts)) (is_word_is (codes "is") t f))
column_on lim whole lead n c false s t ts r f e = signs_on lim whole lead n c (operator_in t) s t ts r refl e

sign_on : (lim : Limits) (whole : List Token) (lead : List Token → List Token) (n : Nest) (c : List ℕ) (op : Operator) (o : Option GivenReader) (s : Standing) (t : Token) (ts : List Token)
    → PartReads lim whole lead n (Sign c op) (t ∷ ts) → given_from t ≡ o → given_on n c op o ≡ Goes s → CondReads lim whole lead s ts
sign_on lim whole lead n c op None s t ts r f e = cc
sign_on lim whole lead n c op (Some g) s t ts r f e =
    let P : Standing → Type 0 = λ x. CondReads lim whole lead x ts in
    subst P (goes_same (record { nest = n; part = Literal c op g }) s e)
    (r.0, r.1, r.2, r.3, r.4, r.5, given_begins whole (λ xs. lead_operand lead r.0 r.1 (word c ∷ token.Operator r.2 ∷ xs)) g t ts f r.6)

-- the conditions joined in a group, as one
record Totals (most k : ℕ) (sum : Option Cond) (last : Cond) (gs : Option trees.Tree) (t : trees.Tree) : Type 0 where
  whole : Cond
  tree : trees.Tree
  is : total_of gs (Some t) ≡ Some tree
  says : SaysTree whole tree
  within : opens whole + k ≤ most
  count : joins whole ≡ joins_before sum + joins last
  then : (rest : List Token) → cond_then whole rest ≡ sum_then sum (cond_then last rest)

totals : (most k : ℕ) (sum : Option Cond) (last : Cond) (gs : Option trees.Tree) (t : trees.Tree) → SaysSum sum gs → SaysTree last t → 1 ≤ tightness last → Within most k sum → opens last + k ≤ most
    → Totals most k sum last gs t
totals most k None last None t ss sl tl ws wl = record { whole = last; tree = t; is = refl; says = sl; within = wl; count = omega arith; then = λ rest. refl }
totals most k (Some c) last (Some g) t ss sl tl ws wl =
    record {
      whole = disj c last;
      tree = trees.Or g t;
      is = refl;
      says = (g, t, ss, sl, tl, refl);
      within = max_within (opens c) (opens last) k most ws wl;
      count = omega arith;
      then = λ rest. refl;
    }
totals most k None last (Some g) t ss sl tl ws wl = absurd ss
totals most k (Some c) last None t ss sl tl ws wl = absurd ss

joint_total : (lim : Limits) (whole : List Token) (lead : List Token → List Token) (n : Nest) (rest : List Token) (j : AtJoint lim whole lead n rest)
    → Totals lim.open_most (length n.frames) j.sum j.last n.group.sum j.tree
joint_total lim whole lead n rest j = totals lim.open_most (length n.frames) j.sum j.last n.group.sum j.tree j.says_sum j.says_last j.tight j.sum_within j.last_within

ands_on : (lim : Limits) (whole : List Token) (lead : List Token → List Token) (n : Nest) (b : Bool) (s : Standing) (t : Token) (ts : List Token)
    → AtJoint lim whole lead n (t ∷ ts) → t ≡ word (codes "and") → nat_lt n.joins lim.joins_most ≡ b → cond b (on (and_behind n) Operand) Deep ≡ Goes s → CondReads lim whole lead s ts
ands_on lim whole lead n false s t ts j k f e = cc
ands_on lim whole lead n true s t ts j k f e =
    let P : Standing → Type 0 = λ x. CondReads lim whole lead x ts in
    let l : n.joins < lim.joins_most = lt_from n.joins lim.joins_most f in
    let Q : Option trees.Tree → Type 0 = λ y. SaysProduct (Some j.last) y in
    subst P (goes_same (record { nest = and_behind n; part = Operand }) s e) (
      j.os,
      record { sum = j.sum; product = Some j.last },
      record {
        frames = j.frames;
        says = record { sum = j.says_sum; product = subst Q (sym j.product) (j.says_last, j.tight); sum_within = j.sum_within; product_within = j.last_within };
        behind = λ q. let z : true ≡ false = sym q ∙ j.top in cc;
        count = let c = j.count in omega arith;
        within = omega arith;
      },
      j.parts ∙ ap (λ (y : Token). lead (frames_then j.os (sum_then j.sum (cond_then j.last (y ∷ ts))))) k,
    )

ors_on : (lim : Limits) (whole : List Token) (lead : List Token → List Token) (n : Nest) (b : Bool) (s : Standing) (t : Token) (ts : List Token)
    → AtJoint lim whole lead n (t ∷ ts) → t ≡ word (codes "or") → nat_lt n.joins lim.joins_most ≡ b → cond b (on (or_behind n) Operand) Deep ≡ Goes s → CondReads lim whole lead s ts
ors_on lim whole lead n false s t ts j k f e = cc
ors_on lim whole lead n true s t ts j k f e =
    let P : Standing → Type 0 = λ x. CondReads lim whole lead x ts in
    let l : n.joins < lim.joins_most = lt_from n.joins lim.joins_most f in
    let x = joint_total lim whole lead n (t ∷ ts) j in
    let y : total n.group ≡ Some x.tree = ap (λ (z : Option trees.Tree). total_of n.group.sum z) j.product ∙ x.is in
    let Q : Option trees.Tree → Type 0 = λ z. SaysSum (Some x.whole) z in
    subst P (goes_same (record { nest = or_behind n; part = Operand }) s e) (
      j.os,
      record { sum = Some x.whole; product = None },
      record {
        frames = j.frames;
        says = record { sum = subst Q (sym y) x.says; product = tt; sum_within = x.within; product_within = tt };
        behind = λ q. let z : true ≡ false = sym q ∙ j.top in cc;
        count = let c = j.count in let d = x.count in omega arith;
        within = omega arith;
      },
      j.parts ∙ ap (λ (z : Token). lead (frames_then j.os (sum_then j.sum (cond_then j.last (z ∷ ts))))) k ∙ ap (λ (zs : List Token). lead (frames_then j.os zs)) (sym (x.then (word (codes "or") ∷ ts))),
    )

close_in : (lim : Limits) (whole : List Token) (lead : List Token → List Token) (fs : List Frame) (os : List Opened) (n : ℕ) (x : Cond) (t : trees.Tree) (m : Nest) (ts : List Token)
    → FramesSay lim.open_most os fs → is_negated fs ≡ false → SaysTree x t → opens x + length fs ≤ lim.open_most → n ≡ frames_joins os + joins x → n ≤ lim.joins_most
    → whole ≡ lead (frames_then os (cond_then x (token.Close ∷ ts))) → settle_closed fs n (Some t) ≡ Some m → AtJoint lim whole lead m ts
close_in lim whole lead [] os n x t m ts f top sx ox c w p e = cc
close_in lim whole lead (f ∷ fs) [] n x t m ts a top sx ox c w p e = absurd a
close_in lim whole lead (f ∷ fs) (o ∷ os) n x t m ts a top sx ox c w p e =
    let P : Nest → Type 0 = λ y. AtJoint lim whole lead y ts in
    let q : opening o.negated ≡ token.Open = ap (λ (y : Bool). opening y) (a.0 ∙ top) in
    let s : settled fs f.group n t ≡ m = cc in
    subst P s
    (settles lim whole lead fs os o.written f.group n (group x) t ts a.4 a.1 a.3 sx (omega arith) (omega arith) (c ∙ (omega arith)) w
    (p ∙ ap (λ (y : Token). lead (frames_then os (before_operand o.written (y ∷ cond_then x (token.Close ∷ ts))))) q))

closes_on : (lim : Limits) (whole : List Token) (lead : List Token → List Token) (n : Nest) (o : Option Nest) (s : Standing) (t : Token) (ts : List Token)
    → AtJoint lim whole lead n (t ∷ ts) → t ≡ token.Close → closed n ≡ o → closed_on o ≡ Goes s → CondReads lim whole lead s ts
closes_on lim whole lead n None s t ts j k f e = cc
closes_on lim whole lead n (Some m) s t ts j k f e =
    let P : Standing → Type 0 = λ x. CondReads lim whole lead x ts in
    let x = joint_total lim whole lead n (t ∷ ts) j in
    let y : total n.group ≡ Some x.tree = ap (λ (z : Option trees.Tree). total_of n.group.sum z) j.product ∙ x.is in
    let g : settle_closed n.frames n.joins (Some x.tree) ≡ Some m = ap (λ (z : Option trees.Tree). settle_closed n.frames n.joins z) (sym y) ∙ f in
    subst P (goes_same (record { nest = m; part = Joint }) s e)
    (close_in lim whole lead n.frames j.os n.joins x.whole x.tree m ts j.frames j.top x.says x.within (let c = j.count in let d = x.count in omega arith) j.within
    (j.parts ∙ ap (λ (z : Token). lead (frames_then j.os (sum_then j.sum (cond_then j.last (z ∷ ts))))) k ∙ ap (λ (zs : List Token). lead (frames_then j.os zs)) (sym (x.then (token.Close ∷ ts)))) g)

joint_on : (lim : Limits) (whole : List Token) (lead : List Token → List Token) (n : Nest) (a b c : Bool) (s : Standing) (t : Token) (ts : List Token)
    → AtJoint lim whole lead n (t ∷ ts) → is_word (codes "and") t ≡ a → is_word (codes "or") t ≡ b → is_close t ≡ c
    → cond a (and_after lim n) (cond b (or_after lim n) (cond c (close_after n) Wrong)) ≡ Goes s → CondReads lim whole lead s ts
joint_on lim whole lead n true b c s t ts j f g h e = ands_on lim whole lead n (nat_lt n.joins lim.joins_most) s t ts j (is_word_is (codes "and") t f) refl e
joint_on lim whole lead n false true c s t ts j f g h e = ors_on lim whole lead n (nat_lt n.joins lim.joins_most) s t ts j (is_word_is (codes "or") t g) refl e
joint_on lim whole lead n false false true s t ts j f g h e = closes_on lim whole lead n (closed n) s t ts j (close_is t h) refl e
joint_on lim whole lead n false false false s t ts j f g h e = cc

joint_step : (lim : Limits) (whole : List Token) (lead : List Token → List Token) (n : Nest) (s : Standing) (t : Token) (ts : List Token)
    → AtJoint lim whole lead n (t ∷ ts) → joint_after lim n t ≡ Goes s → CondReads lim whole lead s ts
joint_step lim whole lead n s t ts j e = joint_on lim whole lead n (is_word (codes "and") t) (is_word (codes "or") t) (is_close t) s t ts j refl refl refl e

-- a literal that ends before these tokens
pub literal_joint : (lim : Limits) (whole : List Token) (lead : List Token → List Token) (n : Nest) (c : List ℕ) (op : Operator) (g : GivenReader) (v : Given) (rest : List Token)
    → PartReads lim whole lead n (Literal c op g) rest → given_of g ≡ Some v → AtJoint lim whole lead (and_operand n (trees.Atom c op v)) rest
literal_joint lim whole lead n c op g v rest r f =
    let d = given_ends whole (λ xs. lead_operand lead r.0 r.1 (word c ∷ token.Operator r.2 ∷ xs)) g v rest r.6 f in
    and_on lim whole lead n r.0 r.1 (atom c r.2 d.phrase) (trees.Atom c op v) rest r.3
    (op, r.4, r.5, ap (λ (y : Given). trees.Atom c op y) d.value) (omega arith) refl refl d.parts

literal_ends : (lim : Limits) (whole : List Token) (lead : List Token → List Token) (n : Nest) (c : List ℕ) (op : Operator) (g : GivenReader) (o : Option Given) (s : Standing) (t : Token) (ts : List Token)
    → PartReads lim whole lead n (Literal c op g) (t ∷ ts) → given_of g ≡ o → behind_literal lim n c op t o ≡ Goes s → CondReads lim whole lead s ts
literal_ends lim whole lead n c op g None s t ts r f e = cc
literal_ends lim whole lead n c op g (Some v) s t ts r f e = joint_step lim whole lead (and_operand n (trees.Atom c op v)) s t ts (literal_joint lim whole lead n c op g v (t ∷ ts) r f) e

literal_step : (lim : Limits) (whole : List Token) (lead : List Token → List Token) (n : Nest) (c : List ℕ) (op : Operator) (g : GivenReader) (o : Option GivenReader) (s : Standing) (t : Token) (ts : List Token)
    → PartReads lim whole lead n (Literal c op g) (t ∷ ts) → given_after g t ≡ o → literal_on lim n c op g t o ≡ Goes s → CondReads lim whole lead s ts
literal_step lim whole lead n c op g (Some h) s t ts r f e =
    let P : Standing → Type 0 = λ x. CondReads lim whole lead x ts in
    subst P (goes_same (record { nest = n; part = Literal c op h }) s e)
    (r.0, r.1, r.2, r.3, r.4, r.5, given_steps whole (λ xs. lead_operand lead r.0 r.1 (word c ∷ token.Operator r.2 ∷ xs)) g h t ts r.6 f)
literal_step lim whole lead n c op g None s t ts r f e = literal_ends lim whole lead n c op g (given_of g) s t ts r refl e

nulls_on : (lim : Limits) (whole : List Token) (lead : List Token → List Token) (n : Nest) (c : List ℕ) (negated b : Bool) (os : List Opened) (w : Written) (s : Standing) (t : Token) (ts : List Token)
    → Base lim n os w → IsName c → (t ≡ word (codes "null") → whole ≡ lead_operand lead os w (cond_then (is_null c negated) ts)) → is_word (codes "null") t ≡ b
    → cond b (on (and_operand n (trees.IsNull c negated)) Joint) Wrong ≡ Goes s → CondReads lim whole lead s ts
nulls_on lim whole lead n c negated false os w s t ts a m p f e = cc
nulls_on lim whole lead n c negated true os w s t ts a m p f e =
    let P : Standing → Type 0 = λ x. CondReads lim whole lead x ts in
    subst P (goes_same (record { nest = and_operand n (trees.IsNull c negated); part = Joint }) s e)
    (and_on lim whole lead n os w (is_null c negated) (trees.IsNull c negated) ts a (m, refl) (omega arith) refl refl (p (is_word_is (codes "null") t f)))

is_on : (lim : Limits) (whole : List Token) (lead : List Token → List Token) (n : Nest) (c : List ℕ) (a : Bool) (s : Standing) (t : Token) (ts : List Token)
    → PartReads lim whole lead n (Is c) (t ∷ ts) → is_word (codes "not") t ≡ a → cond a (on n (IsNot c)) (null_after n c false t) ≡ Goes s → CondReads lim whole lead s ts
is_on lim whole lead n c true s t ts r f e =
    let P : Standing → Type 0 = λ x. CondReads lim whole lead x ts in
    subst P (goes_same (record { nest = n; part = IsNot c }) s e)
    (r.0, r.1, r.2, r.3, r.4 ∙ ap (λ (y : Token). lead_operand lead r.0 r.1 (word c ∷ word (codes "is") ∷ y ∷ ts)) (is_word_is (codes "not") t f))
is_on lim whole lead n c false s t ts r f e =
    nulls_on lim whole lead n c false (is_word (codes "null") t) r.0 r.1 s t ts r.2 r.3 (λ k. r.4 ∙ ap (λ (y : Token). lead_operand lead r.0 r.1 (word c ∷ word (codes "is") ∷ y ∷ ts)) k) refl e

part_steps : (lim : Limits) (whole : List Token) (lead : List Token → List Token) (n : Nest) (p : Part) (s : Standing) (t : Token) (ts : List Token)
    → PartReads lim whole lead n p (t ∷ ts) → part_after lim n t p ≡ Goes s → CondReads lim whole lead s ts
part_steps lim whole lead n Operand s t ts r e = operand_on lim whole lead n (is_word (codes "not") t) (is_open t) s t ts r refl refl e
part_steps lim whole lead n (Column c) s t ts r e = column_on lim whole lead n c (is_word (codes "is") t) s t ts r refl e
part_steps lim whole lead n (Sign c op) s t ts r e = sign_on lim whole lead n c op (given_from t) s t ts r refl e
part_steps lim whole lead n (Literal c op g) s t ts r e = literal_step lim whole lead n c op g (given_after g t) s t ts r refl e
part_steps lim whole lead n (Is c) s t ts r e = is_on lim whole lead n c (is_word (codes "not") t) s t ts r refl e
part_steps lim whole lead n (IsNot c) s t ts r e =
    nulls_on lim whole lead n c true (is_word (codes "null") t) r.0 r.1 s t ts r.2 r.3 (λ k. r.4 ∙ ap (λ (y : Token). lead_operand lead r.0 r.1 (word c ∷ word (codes "is") ∷ word (codes "not") ∷ y ∷ ts)) k) refl e
part_steps lim whole lead n Joint s t ts r e = joint_step lim whole lead n s t ts r e

pub cond_steps : (lim : Limits) (whole : List Token) (lead : List Token → List Token) (s next : Standing) (t : Token) (ts : List Token)
    → CondReads lim whole lead s (t ∷ ts) → condition_after lim s t ≡ Goes next → CondReads lim whole lead next ts
cond_steps lim whole lead s next t ts r e = part_steps lim whole lead s.nest s.part next t ts r e

-- the condition that ends here
pub record EndsCond (lim : Limits) (whole : List Token) (lead : List Token → List Token) (t : trees.Tree) : Type 0 where
  pub cond : Cond
  pub says : SaysTree cond t
  pub opens_within : opens cond ≤ lim.open_most
  pub joins_within : joins cond ≤ lim.joins_most
  pub parts : whole ≡ lead (cond_then cond [])

ends_in : (lim : Limits) (whole : List Token) (lead : List Token → List Token) (fs : List Frame) (os : List Opened) (n : ℕ) (x : Cond) (t u : trees.Tree)
    → FramesSay lim.open_most os fs → SaysTree x t → opens x + length fs ≤ lim.open_most → n ≡ frames_joins os + joins x → n ≤ lim.joins_most
    → whole ≡ lead (frames_then os (cond_then x [])) → whole_in fs (Some t) ≡ Some u → EndsCond lim whole lead u
ends_in lim whole lead [] [] n x t u f sx ox c w p e =
    let P : trees.Tree → Type 0 = λ y. EndsCond lim whole lead y in
    let s : t ≡ u = cc in
    subst P s (record { cond = x; says = sx; opens_within = omega arith; joins_within = omega arith; parts = p })
ends_in lim whole lead [] (o ∷ os) n x t u f sx ox c w p e = absurd f
ends_in lim whole lead (f ∷ fs) os n x t u a sx ox c w p e = cc

joint_ends : (lim : Limits) (whole : List Token) (lead : List Token → List Token) (n : Nest) (t : trees.Tree) → AtJoint lim whole lead n [] → whole_of n ≡ Some t → EndsCond lim whole lead t
joint_ends lim whole lead n t j e =
    let x = joint_total lim whole lead n [] j in
    let y : total n.group ≡ Some x.tree = ap (λ (z : Option trees.Tree). total_of n.group.sum z) j.product ∙ x.is in
    ends_in lim whole lead n.frames j.os n.joins x.whole x.tree t j.frames x.says x.within (let c = j.count in let d = x.count in omega arith) j.within
    (j.parts ∙ ap (λ (zs : List Token). lead (frames_then j.os zs)) (sym (x.then []))) (ap (λ (z : Option trees.Tree). whole_in n.frames z) (sym y) ∙ e)

literal_finishes : (lim : Limits) (whole : List Token) (lead : List Token → List Token) (n : Nest) (c : List ℕ) (op : Operator) (g : GivenReader) (o : Option Given) (t : trees.Tree)
    → PartReads lim whole lead n (Literal c op g) [] → given_of g ≡ o → ended_in n c op o ≡ Some t → EndsCond lim whole lead t
literal_finishes lim whole lead n c op g None t r f e = cc
literal_finishes lim whole lead n c op g (Some v) t r f e = joint_ends lim whole lead (and_operand n (trees.Atom c op v)) t (literal_joint lim whole lead n c op g v [] r f) e

part_ends : (lim : Limits) (whole : List Token) (lead : List Token → List Token) (n : Nest) (p : Part) (t : trees.Tree)
    → PartReads lim whole lead n p [] → condition_at n p ≡ Some t → EndsCond lim whole lead t
part_ends lim whole lead n Joint t r e = joint_ends lim whole lead n t r e
part_ends lim whole lead n (Literal c op g) t r e = literal_finishes lim whole lead n c op g (given_of g) t r refl e
part_ends lim whole lead n p t r e = cc

pub cond_ends : (lim : Limits) (whole : List Token) (lead : List Token → List Token) (s : Standing) (t : trees.Tree)
    → CondReads lim whole lead s [] → condition_of s ≡ Some t → EndsCond lim whole lead t
cond_ends lim whole lead s t r e = part_ends lim whole lead s.nest s.part t r e
