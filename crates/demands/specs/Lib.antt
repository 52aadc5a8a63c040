-- The customer's three demands, the words that they are said in, and what the running tally, the readings of KM, the second calculation, the longer tables, the hopper tanks, the inclining test, the supply vessels and the hulls given by formula are asked.
pub mod Answering
pub mod Limits
pub mod Conditioned
pub mod RunningTally
pub mod TwoReadings
pub mod SecondCalculation
pub mod LongerTables
pub mod HopperTanks
pub mod IncliningTest
pub mod SupplyVessels
pub mod ExactVolumes
pub mod Demands
