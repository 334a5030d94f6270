mod Strikes
mod Tallies
